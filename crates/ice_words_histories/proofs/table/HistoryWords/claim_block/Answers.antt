use Rattle.std.proofs.Common.{◌≡◌, refl, sym, subst, arith, false}
use Rattle.atomic_table.specs.Table.{keeps}
use Rattle.ice_words_histories.specs.Blocks.{own}
use Rattle.ice_words_histories.specs.Grips.{Grip, Board, IsHandOf, grip_of, board_of}
use Rattle.ice_words_histories.proofs.Steps.{claim_keeps}
use Rattle.ice_words_histories.proofs.table.HistoryWords.claim_block.Goals as goal

pub fetch_add-n-requires : goal.fetch_add-n-requires
fetch_add-n-requires c =
    let grip = sym c.hand.view_is in
    let old = c.self.inside.table.shared.key.of_wires.items in
    let view = c.hand.inside.seat.me.0 in
    let board = board_of c.self.inside.table.shared.table_id old in
    let of : IsHandOf board (grip_of c.hand.inside.seat.table_id view) = subst (λ (g : Grip). IsHandOf board g) grip (subst (λ (b : Board). IsHandOf b c.args.hand.now) (sym c.self.view_is) c.requires.of) in
    let going = subst (λ (g : Grip). (own g.view).ended ≡ false) grip c.requires.going in
    (of.table, omega (arith, c.self.invariant.0), λ s h homes at lt. (let t = claim_keeps old s c.hand.inside.seat.id view h at c.hand.invariant.1 of.histories going in (t.0, keeps, tt, t.1, (t.2, refl))))
