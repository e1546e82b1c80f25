use Rattle.std.proofs.Common.{◌≡◌, ℕ, ◌∙◌, ◌+◌, ◌-◌, ◌<◌, length, slice_index, refl, sym, ap, subst, arith, false}
use Rattle.atomic_table.specs.Table.{keeps}
use Rattle.ice_words.specs.Views.{own, held_at}
use Rattle.ice_words.specs.Rule.{MayHold, Looks}
use Rattle.ice_words.specs.Grips.{Grip, Board, IsHandOf, grip_of, board_of, olds_of}
use Rattle.ice_words.proofs.Steps.{hold_keeps, look_keeps}
use Rattle.ice_words.proofs.table.Words.hold.Goals as goal

pub fetch_add-found-requires : goal.fetch_add-found-requires
fetch_add-found-requires c =
    let grip = sym c.hand.view_is in
    let key = c.self.inside.table.shared.key in
    let view = c.hand.inside.seat.me.0 in
    let of : IsHandOf (board_of c.self.inside.table.shared.table_id (olds_of key) key.counts.items) (grip_of c.hand.inside.seat.table_id view) = subst (λ (g : Grip). IsHandOf (board_of c.self.inside.table.shared.table_id (olds_of key) key.counts.items) g) grip (subst (λ (b : Board). IsHandOf b c.args.hand.now) (sym c.self.view_is) c.requires.of) in
    let going = subst (λ (g : Grip). (own g.view).ended ≡ false) grip c.requires.going in
    let wire : c.args.wire.0 < length key.counts.items = subst (λ counts. c.args.wire.0 < length counts) of.counts (subst (λ (g : Grip). c.args.wire.0 < length g.view.counts) grip c.requires.wire) in
    let may : MayHold (olds_of key) (own view).claims c.args.task c.args.wire.0 = subst (λ olds. MayHold olds (own view).claims c.args.task c.args.wire.0) of.olds (subst (λ (g : Grip). MayHold g.view.olds (own g.view).claims c.args.task c.args.wire.0) grip c.requires.may) in
    let same : c.args.wire.0 + 3 - 3 ≡ c.args.wire.0 = omega arith in (
      of.table,
      omega (arith, c.self.invariant.0, wire),
      λ s h homes at lt. (let t = hold_keeps (olds_of key) key.counts.items s c.hand.inside.seat.id c.args.task c.args.wire.0 view h at c.hand.invariant.1 going may wire in (held_at (slice_index s.words (c.args.wire.0 + 3)) c.args.wire.0 view, keeps, tt, t.0, (subst (λ k. Looks view k (slice_index s.words (c.args.wire.0 + 3))) (sym same) (look_keeps (olds_of key) key.counts.items s c.hand.inside.seat.id c.args.wire.0 view h at of.olds of.counts wire), ap (λ k. held_at (slice_index s.words (c.args.wire.0 + 3)) k view) (sym same), t.1, refl))),
    )

pub returns-then-found-ge1-clause-view : goal.returns-then-found-ge1-clause-view
returns-then-found-ge1-clause-view c =
    let same : c.args.wire.0 + 3 - 3 ≡ c.args.wire.0 = omega arith in
    let view = c.hand.inside.seat.me.0 in
    let found = c.fetch_add-found.result in
    let looks : Looks view c.args.wire.0 found = subst (λ k. Looks view k found) same c.fetch_add-found.ensures.2.0 in
    let now : c.fetch_add-found.new.seat.me.0 ≡ held_at found c.args.wire.0 view = c.fetch_add-found.ensures.2.1 ∙ ap (λ k. held_at found k view) same in
    subst (λ (g : Grip). (n : ℕ) × Looks g.view c.args.wire.0 n × (c.fetch_add-found.new.seat.me.0 ≡ held_at n c.args.wire.0 g.view)) c.hand.view_is (found, looks, now)

pub returns-else-found-ge1-clause-view : goal.returns-else-found-ge1-clause-view
returns-else-found-ge1-clause-view c =
    let same : c.args.wire.0 + 3 - 3 ≡ c.args.wire.0 = omega arith in
    let view = c.hand.inside.seat.me.0 in
    let found = c.fetch_add-found.result in
    let looks : Looks view c.args.wire.0 found = subst (λ k. Looks view k found) same c.fetch_add-found.ensures.2.0 in
    let now : c.fetch_add-found.new.seat.me.0 ≡ held_at found c.args.wire.0 view = c.fetch_add-found.ensures.2.1 ∙ ap (λ k. held_at found k view) same in
    subst (λ (g : Grip). (n : ℕ) × Looks g.view c.args.wire.0 n × (c.fetch_add-found.new.seat.me.0 ≡ held_at n c.args.wire.0 g.view)) c.hand.view_is (found, looks, now)
