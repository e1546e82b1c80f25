use Rattle.std.proofs.Common.{◌≡◌, ◌<◌, sym, subst, arith}
use Rattle.ice_words.specs.Grips.{Grip, Board, IsHandOf, grip_of, board_of, olds_of}
use Rattle.ice_words.proofs.Steps.{split_keeps}
use Rattle.ice_words.proofs.table.Words.split.Goals as goal

pub split_seat-requires : goal.split_seat-requires
split_seat-requires c =
    let grip = sym c.hand.view_is in
    let key = c.self.inside.table.shared.key in
    let view = c.hand.inside.seat.me.0 in
    let of : IsHandOf (board_of c.self.inside.table.shared.table_id (olds_of key) key.counts.items) (grip_of c.hand.inside.seat.table_id view) = subst (λ (g : Grip). IsHandOf (board_of c.self.inside.table.shared.table_id (olds_of key) key.counts.items) g) grip (subst (λ (b : Board). IsHandOf b c.args.hand.now) (sym c.self.view_is) c.requires.of) in
    let main = subst (λ (g : Grip). g.view.main ≡ 1) grip c.requires.main in
    let few = subst (λ (g : Grip). g.view.splits < 65535) grip c.requires.few in
    (of.table, omega (arith, c.self.invariant.0), λ s h at. split_keeps (olds_of key) key.counts.items s c.hand.inside.seat.id view h at main few)
