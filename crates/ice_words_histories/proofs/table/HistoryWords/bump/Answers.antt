use Rattle.std.proofs.Common.{◌≡◌, ◌+◌, ◌-◌, ◌^◌, ◌<◌, ◌≤◌, length, refl, sym, ap, subst, arith}
use Rattle.atomic_table.specs.Table.{keeps}
use Rattle.ice_words_histories.specs.Blocks.{block_of, claims_on, bumps_on, own, with_own, bumping}
use Rattle.ice_words_histories.specs.Grips.{Grip, Board, IsHandOf, grip_of, board_of}
use Rattle.ice_words_histories.proofs.Steps.{bump_keeps}
use Rattle.ice_words_histories.proofs.table.HistoryWords.bump.Goals as goal

pub fetch_add-requires : goal.fetch_add-requires
fetch_add-requires c =
    let grip = sym c.hand.view_is in
    let old = c.self.inside.table.shared.key.of_wires.items in
    let view = c.hand.inside.seat.me.0 in
    let board = board_of c.self.inside.table.shared.table_id old in
    let of : IsHandOf board (grip_of c.hand.inside.seat.table_id view) = subst (λ (g : Grip). IsHandOf board g) grip (subst (λ (b : Board). IsHandOf b c.args.hand.now) (sym c.self.view_is) c.requires.of) in
    let wire : c.args.wire.0 < length old = subst (λ hs. c.args.wire.0 < length hs) of.histories (subst (λ (g : Grip). c.args.wire.0 < length g.view.histories) grip c.requires.wire) in
    let claimed = subst (λ (g : Grip). 1 ≤ claims_on (block_of c.args.wire.0) (own g.view)) grip c.requires.claimed in
    let new = subst (λ (g : Grip). bumps_on c.args.wire.0 (own g.view) ≡ 0) grip c.requires.new in
    let n = c.from.result in
    let low : n < 2 ^ 32 = omega (arith, c.from.ensures, c.ranges.by.fits) in
    let same : c.args.wire.0 + 1 - 1 ≡ c.args.wire.0 = omega arith in (
      of.table,
      omega (arith, c.self.invariant.0, wire),
      λ s h homes at lt. (with_own (bumping c.args.wire.0 n) view, keeps, tt, bump_keeps old s c.hand.inside.seat.id c.args.wire.0 n view h at c.hand.invariant.1 wire low claimed new, (ap (λ k. with_own (bumping k n) view) (sym same), refl)),
    )
