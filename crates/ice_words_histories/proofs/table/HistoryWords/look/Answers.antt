use Rattle.std.proofs.Common.{◌≡◌, ◌+◌, ◌-◌, ◌<◌, slice_index, length, refl, sym, subst, arith}
use Rattle.atomic_table.specs.Table.{keeps}
use Rattle.ice_words_histories.specs.Grips.{Grip, Board, IsHandOf, grip_of, board_of}
use Rattle.ice_words_histories.specs.Rule.{Looks}
use Rattle.ice_words_histories.proofs.Steps.{load_keeps, look_keeps}
use Rattle.ice_words_histories.proofs.table.HistoryWords.look.Goals as goal

pub load-requires : goal.load-requires
load-requires c =
    let grip = sym c.hand.view_is in
    let old = c.self.inside.table.shared.key.of_wires.items in
    let view = c.hand.inside.seat.me.0 in
    let board = board_of c.self.inside.table.shared.table_id old in
    let of : IsHandOf board (grip_of c.hand.inside.seat.table_id view) = subst (λ (g : Grip). IsHandOf board g) grip (subst (λ (b : Board). IsHandOf b c.args.hand.now) (sym c.self.view_is) c.requires.of) in
    let wire : c.args.wire.0 < length old = subst (λ hs. c.args.wire.0 < length hs) of.histories (subst (λ (g : Grip). c.args.wire.0 < length g.view.histories) grip c.requires.wire) in
    let same : c.args.wire.0 + 1 - 1 ≡ c.args.wire.0 = omega arith in (
      of.table,
      omega (arith, c.self.invariant.0, wire),
      λ s h homes at lt. (view, keeps, tt, load_keeps old s c.hand.inside.seat.id (c.args.wire.0 + 1) view h at, (subst (λ k. Looks view k (slice_index s.words (c.args.wire.0 + 1))) (sym same) (look_keeps old s c.hand.inside.seat.id c.args.wire.0 view h at of.histories wire), refl)),
    )

pub returns-clause-looks : goal.returns-clause-looks
returns-clause-looks c =
    let same : c.args.wire.0 + 1 - 1 ≡ c.args.wire.0 = omega arith in
    subst (λ (g : Grip). Looks g.view c.args.wire.0 c.load.result) c.hand.view_is (subst (λ k. Looks c.hand.inside.seat.me.0 k c.load.result) same c.load.ensures.2.0)
