-- An array of values that is filled in an order of evaluation.
use Rattle.std.proofs.Common.{◌≡◌, ◌≢◌, ℕ, suc, ◌+◌, ◌<◌, ◌≤◌, Some, List, map, length, get_or, set, inl, inr, subst, arith, get_or-set_same, get_or-set_other}
use Rattle.std.proofs.lemmas.Bool.{cases_lt}
use Rattle.std.proofs.lemmas.Option.{slice_get_within}
use Rattle.ice_base_values.specs.System.{System, value}
use Rattle.ice_base_values.specs.Order.{At, IsOrder}
use Rattle.ice_base_values.proofs.Places.{At_same}
use Rattle.ice_base_values.proofs.Values.{value_step, value_at_more}

-- the first i points of the order have their values
abbrev pub Filled : {A : Type 0} → System ℕ A → A → List ℕ → List A → ℕ → Type 0
Filled s d order values i = (j p : ℕ) → j < i → At order j p → value s (suc j) p ≡ Some (get_or values p d)

pub filled_more : {A : Type 0} (s : System ℕ A) (d : A) (n : ℕ) (order : List ℕ) (values : List A) (i p : ℕ) (x : A)
    → IsOrder n s.depends order → length values ≡ n → Filled s d order values i → At order i p
    → x ≡ s.local p (map (λ q. get_or values q d) (s.depends p)) → Filled s d order (set values p x) (i + 1)
filled_more s d n order values i p x o len filled at e j r lt here =
    let old : j < i → value s (suc j) r ≡ Some (get_or (set values p x) r d)
    = λ below.
    let other : r ≢ p = λ same. let f : j ≡ i = o.once j i p (subst (λ t. At order j t) same here) at in omega arith in
    rw (get_or-set_other values p r x d other) (filled j r below here) in
    let new : i ≤ j → value s (suc j) r ≡ Some (get_or (set values p x) r d)
    = λ above.
    let same_place : j ≡ i = omega arith in
    let same : r ≡ p = At_same order i r p (subst (λ t. At order t r) same_place here) at in
    let inside : p < length values = let f = o.within i p at in omega arith in
    let made : value s (suc i) p ≡ Some (s.local p (map (λ q. get_or values q d) (s.depends p)))
    = value_step s (λ q. get_or values q d) i p
    (λ q has. let before = o.after i p q at has in
    value_at_more s (suc before.0) i q (get_or values q d) (let f = before.1 in omega arith) (filled before.0 q before.1 before.2)) in
    rw (same_place, same, get_or-set_same values p x d inside, e) made in
    elim (cases_lt j i) [ inl below ↦ old below | inr above ↦ new above ]

pub filled_all : {A : Type 0} (s : System ℕ A) (d : A) (n : ℕ) (order : List ℕ) (values : List A)
    → IsOrder n s.depends order → Filled s d order values (length order)
    → (p : ℕ) → p < n → value s (n + 1) p ≡ Some (get_or values p d)
filled_all s d n order values o filled p lt =
    let there = o.each p lt in
    let inside = slice_get_within order there.0 p there.1 in
    value_at_more s (suc there.0) (n + 1) p (get_or values p d) (let e = o.count in omega arith) (filled there.0 p inside there.1)
