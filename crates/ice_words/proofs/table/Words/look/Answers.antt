use Rattle.std.proofs.Common.{◌≡◌, ◌+◌, ◌-◌, ◌<◌, slice_index, length, refl, sym, subst, arith}
use Rattle.atomic_table.specs.Table.{keeps}
use Rattle.ice_words.specs.Grips.{Grip, Board, IsHandOf, grip_of, board_of, olds_of}
use Rattle.ice_words.specs.Rule.{Looks}
use Rattle.ice_words.proofs.Steps.{load_keeps, look_keeps, few_held}
use Rattle.ice_words.proofs.table.Words.look.Goals as goal

pub load-requires : goal.load-requires
load-requires c =
    let grip = sym c.hand.view_is in
    let key = c.self.inside.table.shared.key in
    let view = c.hand.inside.seat.me.0 in
    let of : IsHandOf (board_of c.self.inside.table.shared.table_id (olds_of key) key.counts.items) (grip_of c.hand.inside.seat.table_id view) = subst (λ (g : Grip). IsHandOf (board_of c.self.inside.table.shared.table_id (olds_of key) key.counts.items) g) grip (subst (λ (b : Board). IsHandOf b c.args.hand.now) (sym c.self.view_is) c.requires.of) in
    let wire : c.args.wire.0 < length key.counts.items = subst (λ counts. c.args.wire.0 < length counts) of.counts (subst (λ (g : Grip). c.args.wire.0 < length g.view.counts) grip c.requires.wire) in
    let same : c.args.wire.0 + 3 - 3 ≡ c.args.wire.0 = omega arith in (
      of.table,
      omega (arith, c.self.invariant.0, wire),
      λ s h homes at lt. (
        view,
        keeps,
        tt,
        load_keeps (olds_of key) key.counts.items s c.hand.inside.seat.id (c.args.wire.0 + 3) view h at,
        (subst (λ k. Looks view k (slice_index s.words (c.args.wire.0 + 3))) (sym same) (look_keeps (olds_of key) key.counts.items s c.hand.inside.seat.id c.args.wire.0 view h at of.olds of.counts wire), few_held (olds_of key) key.counts.items s c.args.wire.0 h wire, refl),
      ),
    )

pub returns-clause-looks : goal.returns-clause-looks
returns-clause-looks c =
    let same : c.args.wire.0 + 3 - 3 ≡ c.args.wire.0 = omega arith in
    subst (λ (g : Grip). Looks g.view c.args.wire.0 c.load.result) c.hand.view_is (subst (λ k. Looks c.hand.inside.seat.me.0 k c.load.result) same c.load.ensures.2.0)
