use Rattle.std.proofs.Common.{◌≡◌, ◌<◌, sym, subst, arith}
use Rattle.ice_words_histories.specs.Grips.{Grip, Board, IsHandOf, grip_of, board_of}
use Rattle.ice_words_histories.proofs.Steps.{split_keeps}
use Rattle.ice_words_histories.proofs.table.HistoryWords.split.Goals as goal

pub split_seat-requires : goal.split_seat-requires
split_seat-requires c =
    let grip = sym c.hand.view_is in
    let old = c.self.inside.table.shared.key.of_wires.items in
    let view = c.hand.inside.seat.me.0 in
    let board = board_of c.self.inside.table.shared.table_id old in
    let of : IsHandOf board (grip_of c.hand.inside.seat.table_id view) = subst (λ (g : Grip). IsHandOf board g) grip (subst (λ (b : Board). IsHandOf b c.args.hand.now) (sym c.self.view_is) c.requires.of) in
    let main = subst (λ (g : Grip). g.view.main ≡ 1) grip c.requires.main in
    let few = subst (λ (g : Grip). g.view.splits < 65535) grip c.requires.few in
    (of.table, omega (arith, c.self.invariant.0), λ s h at. split_keeps old s c.hand.inside.seat.id view h at main few)
