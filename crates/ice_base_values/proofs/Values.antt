-- The laws of values. In the lemmas s and t are systems, p and q points, f and g numbers of steps, v an assignment of values to
-- points, and x a value.
use Rattle.std.proofs.Common.{◌≡◌, ℕ, zero, suc, ◌+◌, ◌-◌, ◌<◌, ◌≤◌, Some, List, map, refl, ap, sym, ◌∙◌, subst, length, arith, add-suc, add-zero}
use Rattle.std.specs.Prelude.{option_map}
use Rattle.std.proofs.lemmas.Option.{slice_get_within}
use Rattle.ice_base.specs.Lists.{all_known}
use Rattle.ice_base_values.specs.System.{System, value}
use Rattle.ice_base_values.specs.Simulations.{MeetsEquation}
use Rattle.ice_base_values.specs.Order.{At, Has, Descends, IsOrder}
use Rattle.ice_base.proofs.Options.{option_map_some, option_map_same}
use Rattle.ice_base_values.proofs.Together.{map_along, together_more, together_are, together_there}

-- one more step changes no value that is there
pub value_suc : {P A : Type 0} (s : System P A) (f : ℕ) (p : P) (x : A) → value s f p ≡ Some x → value s (suc f) p ≡ Some x
value_suc s zero p x h = cc
value_suc s (suc f) p x h =
    let got = option_map_some (s.local p) (all_known (map (λ q. value s f q) (s.depends p))) x h in
    rw (together_more (λ q. value s f q) (λ q. value s (suc f) q) (λ q y e. value_suc s f q y e) (s.depends p) got.0 got.1) (ap Some got.2)

-- more steps change no value that is there
pub value_more : {P A : Type 0} (s : System P A) (f : ℕ) (p : P) (x : A) (more : ℕ) → value s f p ≡ Some x → value s (f + more) p ≡ Some x
value_more s f p x zero h = rw add-zero h
value_more s f p x (suc more) h = rw add-suc (value_suc s (f + more) p x (value_more s f p x more h))

-- the same, where one number of steps is at least the other
pub value_at_more : {P A : Type 0} (s : System P A) (f g : ℕ) (p : P) (x : A) → f ≤ g → value s f p ≡ Some x → value s g p ≡ Some x
value_at_more s f g p x le h =
    let e : f + (g - f) ≡ g = omega arith in
    subst (λ n. value s n p ≡ Some x) e (value_more s f p x (g - f) h)

-- where the values of all that p depends on are those of an assignment, its own is what `local` makes of them
pub value_step : {P A : Type 0} (s : System P A) (v : P → A) (f : ℕ) (p : P)
    → ((q : P) → Has (s.depends p) q → value s f q ≡ Some (v q))
    → value s (suc f) p ≡ Some (s.local p (map v (s.depends p)))
value_step s v f p h = rw (together_are (λ q. value s f q) v (s.depends p) h)

-- an assignment that meets each ranked point's equation is its value, with more steps than its rank
pub value_ranked : {P A : Type 0} (s : System P A) (R : ℕ → P → Type 0) (v : P → A) → Descends s.depends R
    → ((i : ℕ) (p : P) → R i p → MeetsEquation s v p)
    → (f i : ℕ) (p : P) → R i p → i < f → value s f p ≡ Some (v p)
value_ranked s R v falls meets zero i p r lt = absurd (omega arith)
value_ranked s R v falls meets (suc f) i p r lt =
    value_step s v f p (λ q has. let below = falls i p q r has in value_ranked s R v falls meets f below.0 q below.2 (let h : below.0 < i = below.1 in omega arith))
    ∙ ap Some (sym (meets i p r))

-- a ranked point has a value, with more steps than its rank
pub value_there : {P A : Type 0} (s : System P A) (R : ℕ → P → Type 0) → Descends s.depends R
    → (f i : ℕ) (p : P) → R i p → i < f → (x : A) × (value s f p ≡ Some x)
value_there s R falls zero i p r lt = absurd (omega arith)
value_there s R falls (suc f) i p r lt =
    let all = together_there (λ q. value s f q) (s.depends p)
    (λ q has. let below = falls i p q r has in value_there s R falls f below.0 q below.2 (let h : below.0 < i = below.1 in omega arith)) in
    (s.local p all.0, rw all.1)

-- in an order of all the points, each has a value with as many steps as there are points and one more
pub value_ordered : {A : Type 0} (s : System ℕ A) (n : ℕ) (order : List ℕ) → IsOrder n s.depends order
    → (p : ℕ) → p < n → (x : A) × (value s (n + 1) p ≡ Some x)
value_ordered s n order o p lt =
    let there = o.each p lt in
    let inside : there.0 < length order = slice_get_within order there.0 p there.1 in
    value_there s (At order) o.after (n + 1) there.0 p there.1 (let e : length order ≡ n = o.count in omega arith)

-- in an order of all the points, an assignment that meets each point's equation is the value
pub value_unique : {A : Type 0} (s : System ℕ A) (n : ℕ) (order : List ℕ) (v : ℕ → A) → IsOrder n s.depends order
    → ((p : ℕ) → p < n → MeetsEquation s v p)
    → (p : ℕ) → p < n → value s (n + 1) p ≡ Some (v p)
value_unique s n order v o meets p lt =
    let there = o.each p lt in
    let inside : there.0 < length order = slice_get_within order there.0 p there.1 in
    value_ranked s (At order) v o.after (λ i q at. meets q (o.within i q at)) (n + 1) there.0 p there.1
    (let e : length order ≡ n = o.count in omega arith)

-- the same order, where the dependences are the same
pub order_same : (n : ℕ) (d e : ℕ → List ℕ) (order : List ℕ) → ((p : ℕ) → p < n → d p ≡ e p) → IsOrder n d order → IsOrder n e order
order_same n d e order same o = record {
  count = o.count;
  within = o.within;
  each = o.each;
  once = o.once;
  after = λ i p q at has. o.after i p q at (has.0, subst (λ (row : List ℕ). At row has.0 q) (sym (same p (o.within i p at))) has.1);
}

-- points of one system that go all_known with points of another have the same values: e leads from the one to the other
pub value_along : {P Q A : Type 0} (s : System P A) (t : System Q A) (e : P → Q) (C : P → Type 0)
    → ((p : P) → C p → (q : P) → Has (s.depends p) q → C q)
    → ((p : P) → C p → t.depends (e p) ≡ map e (s.depends p))
    → ((p : P) (xs : List A) → C p → t.local (e p) xs ≡ s.local p xs)
    → (f : ℕ) (p : P) → C p → value t f (e p) ≡ value s f p
value_along s t e C closed depends local zero p c = refl
value_along s t e C closed depends local (suc f) p c =
    ap (λ ds. option_map (t.local (e p)) (all_known (map (λ q. value t f q) ds))) (depends p c)
    ∙ ap (option_map (t.local (e p))) (ap all_known (map_along (λ q. value t f q) (λ q. value s f q) e (s.depends p)
    (λ q has. value_along s t e C closed depends local f q (closed p c q has))))
    ∙ option_map_same (t.local (e p)) (s.local p) (λ xs. local p xs c) (all_known (map (λ q. value s f q) (s.depends p)))
