-- The bound to several wires is that to the nearest of them.
use Rattle.std.proofs.Common.{◌≡◌, ◌≢◌, ℕ, zero, suc, ◌+◌, ◌-◌, ◌≤◌, cond, List, [], ◌∷◌, refl, sym, ap, ◌∙◌, arith, inl, inr, ◌⊎◌}
use Rattle.std.specs.Prelude.{◌/◌, min}
use Rattle.std.proofs.lemmas.Bool.{cases_eq, eq-eqb, ne_eqb}
use Rattle.ice_base.specs.declared.number.WireNo.{WireNo}
use Rattle.ice_graph.specs.Boxes.{box_of, distance, in_spreads}
use Rattle.ice_graph.specs.Network.{Network, bound, least_from, least_bound}
use Rattle.ice_graph.specs.Nearest.{apart, nearest_from, nearest, bound_of}
use Rattle.ice_graph.proofs.Bounding.{bound_self, bound_other, div_le}

-- more steps are no fewer greatest half perimeters
spreads_rise : (s d f : ℕ) → d ≤ f → in_spreads s d ≤ in_spreads s f
spreads_rise s d f le = elim (cases_eq s 0) [
  | inl none ↦ (
      let left : in_spreads s d ≡ 0 = ap (λ b. cond b 0 ((d + (s - 1)) / s)) (eq-eqb s 0 none) in
      omega (arith, left))
  | inr some ↦ (
      let left : in_spreads s d ≡ (d + (s - 1)) / s = ap (λ b. cond b 0 ((d + (s - 1)) / s)) (ne_eqb s 0 some) in
      let right : in_spreads s f ≡ (f + (s - 1)) / s = ap (λ b. cond b 0 ((f + (s - 1)) / s)) (ne_eqb s 0 some) in
      let up = div_le s (d + (s - 1)) (f + (s - 1)) (omega (arith, some)) (omega (arith, le)) in
      omega (arith, left, right, up))
]

bound_none : (s d : ℕ) → d ≡ 0 → bound_of s d ≡ 0
bound_none s d none = ap (λ b. cond b 0 (1 + in_spreads s (d - 1))) (eq-eqb d 0 none)

bound_some : (s d : ℕ) → d ≢ 0 → bound_of s d ≡ 1 + in_spreads s (d - 1)
bound_some s d some = ap (λ b. cond b 0 (1 + in_spreads s (d - 1))) (ne_eqb d 0 some)

bound_rises : (s a b : ℕ) → a ≤ b → bound_of s a ≤ bound_of s b
bound_rises s a b le = elim (cases_eq a 0) [
  | inl none ↦ (let left = bound_none s a none in omega (arith, left))
  | inr some ↦ (
      let left = bound_some s a some in
      let right = bound_some s b (λ e. some (omega (arith, e, le))) in
      let up = spreads_rise s (a - 1) (b - 1) (omega (arith, le)) in
      omega (arith, left, right, up))
]

bound_of_min : (s a b : ℕ) → bound_of s (min a b) ≡ min (bound_of s a) (bound_of s b)
bound_of_min s a b = elim (cases_le a b) [
  | inl le ↦ (
      let same : min a b ≡ a = omega (arith, le) in
      let up = bound_rises s a b le in
      ap (bound_of s) same ∙ omega (arith, up))
  | inr le ↦ (
      let same : min a b ≡ b = omega (arith, le) in
      let up = bound_rises s b a le in
      ap (bound_of s) same ∙ omega (arith, up))
]
  where
    cases_le : (a b : ℕ) → (a ≤ b) ⊎ (b ≤ a)
    cases_le zero b = inl (omega arith)
    cases_le (suc a) zero = inr (omega arith)
    cases_le (suc a) (suc b) = elim (cases_le a b) [
      | inl le ↦ inl (omega (arith, le))
      | inr le ↦ inr (omega (arith, le))
    ]

-- the bound to a wire is told by how far it is
pub bound_by : (graph : Network) (w t : ℕ) → bound_of graph.spread (apart graph w t) ≡ bound graph w t
bound_by graph w t = elim (cases_eq w t) [
  | inl same ↦ bound_none graph.spread (apart graph w t) (ap (λ b. cond b 0 (1 + steps)) (eq-eqb w t same)) ∙ sym (bound_self graph w t same)
  | inr other ↦ (
      let is : apart graph w t ≡ 1 + steps = ap (λ b. cond b 0 (1 + steps)) (ne_eqb w t other) in
      let less : apart graph w t - 1 ≡ steps = omega (arith, is) in
      bound_some graph.spread (apart graph w t) (λ none. omega (arith, is, none)) ∙ ap (λ d. 1 + in_spreads graph.spread d) less ∙ sym (bound_other graph w t other))
]
  where
    steps : ℕ
    steps = distance (box_of graph.boxes w) (box_of graph.boxes t)

from_nearest : (graph : Network) (w best : ℕ) (targets : List WireNo) → bound_of graph.spread (nearest_from graph w best targets) ≡ least_from graph w (bound_of graph.spread best) targets
from_nearest graph w best [] = refl
from_nearest graph w best (t ∷ targets) =
    from_nearest graph w (min best (apart graph w t.0)) targets
    ∙ ap (λ b. least_from graph w b targets) (bound_of_min graph.spread best (apart graph w t.0) ∙ ap (min (bound_of graph.spread best)) (bound_by graph w t.0))

-- the bound to several wires is told by the nearest
pub least_by : (graph : Network) (targets : List WireNo) (w : ℕ) → bound_of graph.spread (nearest graph targets w) ≡ least_bound graph targets w
least_by graph [] w = refl
least_by graph (t ∷ targets) w = from_nearest graph w (apart graph w t.0) targets ∙ ap (λ b. least_from graph w b targets) (bound_by graph w t.0)
