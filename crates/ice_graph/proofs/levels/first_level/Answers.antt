use Rattle.std.proofs.Common.{◌≡◌, ◌∙◌, ◌+◌, ◌<◌, ◌≤◌, ℕ, Some, List, length, slice_get, refl, sym, ap, subst, inl, inr, arith}
use Rattle.std.proofs.lemmas.Bool.{cases_eq}
use Rattle.std.proofs.lemmas.Option.{same_Some, slice_get_within}
use Rattle.ice_graph.specs.Levels.{IsFirstLevel, Reaches, lists_of}
use Rattle.ice_graph.proofs.Hopping.{list_at, lists_long}
use Rattle.ice_graph.proofs.levels.first_level.Goals as goal

pub reaches-requires-clause-wire : goal.reaches-requires-clause-wire
reaches-requires-clause-wire c =
    let at = list_at c.args.levels.now c.loop-place.place c.index-levels-place.result c.loop-place-test.true c.index-levels-place.is in
    let lt = c.requires.wire c.loop-place.place c.index-levels-place.result.items at in
    let same = ap length c.deref.ensures.value in
    omega (arith, lt, same)

pub returns-then-reaches : goal.returns-then-reaches
returns-then-reaches c =
    let at = list_at c.args.levels.now c.loop-place.place c.index-levels-place.result c.loop-place-test.true c.index-levels-place.is in
    record {
      there = inr (c.index-levels-place.result.items, at, subst (λ (xs : List ℕ). Reaches xs c.args.wire c.args.bit) c.deref.ensures.value (c.reaches.ensures.yes c.if-reaches.true));
      first = c.loop-place.invariant;
    }

pub loop-place-preserved : goal.loop-place-preserved
loop-place-preserved c = λ k level lt here on. elim (cases_eq k c.loop-place.place) [
  | inl same ↦ (
      let at = list_at c.args.levels.now c.loop-place.place c.index-levels-place.result c.loop-place-test.true c.index-levels-place.is in
      let is : level ≡ c.index-levels-place.result.items = same_Some level c.index-levels-place.result.items (sym here ∙ (ap (λ i. slice_get (lists_of c.args.levels.now) i) same ∙ at)) in
      c.reaches.ensures.not c.if-reaches.false (subst (λ (xs : List ℕ). Reaches xs c.args.wire c.args.bit) (is ∙ sym c.deref.ensures.value) on))
  | inr other ↦ c.loop-place.invariant k level (grind arith) here on
]

pub returns : goal.returns
returns c = record {
  there = inl refl;
  first = λ k level lt here on. c.loop-place.invariant k level (let within = slice_get_within (lists_of c.args.levels.now) k level here in let long = lists_long c.args.levels.now in omega (arith, within, long, c.loop-place-test.false)) here on;
}
