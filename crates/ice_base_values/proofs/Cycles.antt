-- A cycle and an order exclude each other.
use Rattle.std.proofs.Common.{◌≡◌, ℕ, zero, suc, ◌+◌, ◌-◌, ◌<◌, ◌≤◌, Bool, true, None, Some, List, refl, subst, length, get_or, inl, inr, arith}
use Rattle.std.proofs.lemmas.Option.{slice_get_within, slice_get-get_or}
use Rattle.std.proofs.lemmas.Bool.{cases_lt}
use Rattle.ice_base_values.specs.System.{System, value}
use Rattle.ice_base_values.specs.Order.{At, Has, StandsAfter, IsOrder, IsCycle, IsCycleBelow}
use Rattle.ice_base_values.proofs.Together.{together_missing}
use Rattle.ice_base_values.proofs.Values.{value_there}

-- points each of which depends on one of them have no value, whatever the steps
pub value_never : {P A : Type 0} (s : System P A) (C : P → Type 0) → ((p : P) → C p → (q : P) × Has (s.depends p) q × C q)
    → (f : ℕ) (p : P) → C p → value s f p ≡ None
value_never s C goes zero p c = refl
value_never s C goes (suc f) p c =
    let next = goes p c in
    rw (together_missing (λ q. value s f q) (s.depends p) next.0 next.1.0 next.1.1 (value_never s C goes f next.0 next.2))

-- each point of a cycle depends on one of its points
pub cycle_goes_on : {P : Type 0} (depends : P → List P) (cycle : List P) → IsCycle depends cycle
    → (p : P) → Has cycle p → (q : P) × Has (depends p) q × Has cycle q
cycle_goes_on {P} depends cycle c p has =
    let inside : has.0 < length cycle = slice_get_within cycle has.0 p has.1 in
    let after : has.0 + 1 < length cycle → (q : P) × Has (depends p) q × Has cycle q
    = λ lt. let at = slice_get-get_or cycle (has.0 + 1) p lt in (get_or cycle (has.0 + 1) p, c.next has.0 p (get_or cycle (has.0 + 1) p) has.1 at, (has.0 + 1, at)) in
    let last : length cycle ≤ has.0 + 1 → (q : P) × Has (depends p) q × Has cycle q
    = λ le. let at = slice_get-get_or cycle 0 p c.some in
    let e : has.0 ≡ length cycle - 1 = omega arith in
    (get_or cycle 0 p, c.closed (get_or cycle 0 p) p at (subst (λ i. At cycle i p) e has.1), (0, at)) in
    elim (cases_lt (has.0 + 1) (length cycle)) [ inl lt ↦ after lt | inr le ↦ last le ]

-- no point of a cycle has a value, whatever the steps
pub value_in_cycle : {P A : Type 0} (s : System P A) (cycle : List P) → IsCycle s.depends cycle
    → (f : ℕ) (p : P) → Has cycle p → value s f p ≡ None
value_in_cycle s cycle c f p has = value_never s (Has cycle) (cycle_goes_on s.depends cycle c) f p has

-- a list of points in order has none of a cycle's points
pub cycle_not_in_order : {P : Type 0} (depends : P → List P) (order cycle : List P) → StandsAfter depends order → IsCycle depends cycle
    → (p : P) → Has order p → Has cycle p → ⊥
cycle_not_in_order {P} depends order cycle after c p stands has =
    let s : System P Bool = record { depends = depends; local = λ _ _. true } in
    let there = value_there s (At order) after (stands.0 + 1) stands.0 p stands.1 (omega arith) in
    let none = value_in_cycle s cycle c (stands.0 + 1) p has in
    cc (there.1, none)

-- the same cycle, where the dependences of its points are the same
pub cycle_same : {P : Type 0} (d e : P → List P) (cycle : List P) → ((p : P) → Has cycle p → d p ≡ e p) → IsCycle d cycle → IsCycle e cycle
cycle_same {P} d e cycle same c = record {
  some = c.some;
  next = λ i p q a b. let has = c.next i p q a b in (has.0, subst (λ (row : List P). At row has.0 q) (same p (i, a)) has.1);
  closed = λ first last a b. let has = c.closed first last a b in (has.0, subst (λ (row : List P). At row has.0 first) (same last (length cycle - 1, b)) has.1);
}

-- the same for points below a number
pub cycle_below_same : (n : ℕ) (d e : ℕ → List ℕ) (cycle : List ℕ) → ((p : ℕ) → p < n → d p ≡ e p) → IsCycleBelow n d cycle → IsCycleBelow n e cycle
cycle_below_same n d e cycle same c = record { within = c.within; closes = cycle_same d e cycle (λ p has. same p (c.within has.0 p has.1)) c.closes }

-- an order of all the points leaves no cycle among them
pub no_cycle : (n : ℕ) (depends : ℕ → List ℕ) (order cycle : List ℕ) → IsOrder n depends order → IsCycleBelow n depends cycle → ⊥
no_cycle n depends order cycle o c =
    let first = get_or cycle 0 0 in
    let at = slice_get-get_or cycle 0 0 c.closes.some in
    cycle_not_in_order depends order cycle o.after c.closes first (o.each first (c.within 0 first at)) (0, at)

-- a list one of whose points has a value is no cycle
pub value_no_cycle : {P A : Type 0} (s : System P A) (cycle : List P) → IsCycle s.depends cycle
    → (p : P) → Has cycle p → (f : ℕ) (x : A) → value s f p ≡ Some x → ⊥
value_no_cycle s cycle c p has f x e = let none = value_in_cycle s cycle c f p has in cc (none, e)
