use Rattle.std.proofs.Common.{◌≡◌, sym, subst, arith}
use Rattle.ice_words_histories.specs.Grips.{Grip, Board, IsHandOf, grip_of, board_of}
use Rattle.ice_words_histories.proofs.Steps.{join_keeps}
use Rattle.ice_words_histories.proofs.table.HistoryWords.join.Goals as goal

pub join_seat-requires : goal.join_seat-requires
join_seat-requires c =
    let grip = sym c.hand.view_is in
    let old = c.self.inside.table.shared.key.of_wires.items in
    let board = board_of c.self.inside.table.shared.table_id old in
    let of : IsHandOf board (grip_of c.hand.inside.seat.table_id c.hand.inside.seat.me.0) = subst (λ (g : Grip). IsHandOf board g) grip (subst (λ (b : Board). IsHandOf b c.args.hand.now) (sym c.self.view_is) c.requires.of.0) in
    let other : IsHandOf board (grip_of c.other.inside.seat.table_id c.other.inside.seat.me.0) = subst (λ (g : Grip). IsHandOf board g) (sym c.other.view_is) (subst (λ (b : Board). IsHandOf b c.args.other) (sym c.self.view_is) c.requires.of.1) in
    let main = subst (λ (g : Grip). g.view.main ≡ 1) grip c.requires.main in
    let worker = subst (λ (g : Grip). g.view.worker ≡ 1) (sym c.other.view_is) c.requires.worker in
    (of.table, other.table, c.other.invariant.0, omega (arith, c.self.invariant.0), λ s h at apart there. join_keeps old s c.hand.inside.seat.id c.other.inside.seat.id c.hand.inside.seat.me.0 c.other.inside.seat.me.0 h at apart there main worker)
