-- Points that are to have values have them.
use Rattle.std.proofs.Common.{◌≡◌, ℕ, zero, suc, ◌+◌, ◌<◌, ◌≤◌, Option, None, Some, List, [], ◌∷◌, map, inl, inr, refl, ap, sym, ◌∙◌, subst, arith}
use Rattle.std.specs.Prelude.{option_map}
use Rattle.ice_base.specs.Lists.{all_known}
use Rattle.ice_base_values.specs.System.{System, value, reading, gapped}
use Rattle.ice_base_values.specs.Simulations.{try_reading}
use Rattle.ice_base_values.specs.Order.{Has}
use Rattle.ice_base_values.specs.Arriving.{Arrive, IsMade, HasValue, HaveValues}
use Rattle.ice_base_values.proofs.Values.{value_at_more}
use Rattle.ice_base_values.proofs.Gaps.{value_gapped}
use Rattle.ice_base_values.proofs.Enough.{first, first_falls}

-- what arrives is what the inputs read
arrive_read : {P A : Type 0} (M : ℕ → P → A → Type 0) (bare : A) (m : ℕ) (w : P → Option A) → ((k : ℕ) (p : P) (x : A) → k < m → M k p x → w p ≡ Some x)
    → (ps : List (Option P)) (xs : List A) → Arrive M bare m ps xs → all_known (map (try_reading bare w) ps) ≡ Some xs
arrive_read M bare m w are [] [] all = refl
arrive_read M bare m w are [] (x ∷ xs) all = absurd all
arrive_read M bare m w are (None ∷ ps) [] all = absurd all
arrive_read M bare m w are (None ∷ ps) (x ∷ xs) all = rw (all.0, arrive_read M bare m w are ps xs all.1) refl
arrive_read M bare m w are (Some p ∷ ps) [] all = absurd all
arrive_read M bare m w are (Some p ∷ ps) (x ∷ xs) all =
    rw (are all.0.0 p x all.0.1 all.0.2, arrive_read M bare m w are ps xs all.1) refl

-- A point that is to have a value has it, with more steps than its measure.
pub value_arrives : {P A : Type 0} (inputs : P → List (Option P)) (bare : A) (local : P → List A → A) (M : ℕ → P → A → Type 0)
    → ((m : ℕ) (p : P) (x : A) → M m p x → IsMade inputs bare local M m p x)
    → (n m : ℕ) (p : P) (x : A) → M m p x → m < n → value (gapped inputs bare local) n p ≡ Some x
value_arrives inputs bare local M made zero m p x is lt = absurd (omega arith)
value_arrives inputs bare local M made (suc n) m p x is lt =
    let got = made m p x is in
    let read = arrive_read M bare m (λ q. value (gapped inputs bare local) n q) (λ k q y less there. value_arrives inputs bare local M made n k q y there (omega arith)) (inputs p) got.values got.arrive in
    value_gapped inputs bare local n p ∙ ap (option_map (local p)) read ∙ ap Some got.made

-- where every point has a value, the least number of steps with which it has one falls along what it depends on: it is a rank
pub values_rank : {P A : Type 0} (s : System P A) (f : ℕ) → ((p : P) → (x : A) × (value s f p ≡ Some x))
    → (p q : P) → Has (s.depends p) q → first s f q < first s f p
values_rank s f all p q has = first_falls s f p q (all p).0 (all p).1 has

-- ---- with some number of steps
-- values that are there are there with one number of steps for all
common : {P A : Type 0} (s : System P A) (bare : A) (ps : List (Option P)) (xs : List A) → HaveValues s bare ps xs
    → (steps : ℕ) × ((more : ℕ) → steps ≤ more → all_known (map (try_reading bare (λ q. value s more q)) ps) ≡ Some xs)
common s bare [] [] all = (0, λ more le. refl)
common s bare [] (x ∷ xs) all = absurd all
common s bare (None ∷ ps) [] all = absurd all
common s bare (None ∷ ps) (x ∷ xs) all = let rest = common s bare ps xs all.1 in (rest.0, λ more le. rw (all.0, rest.1 more le) refl)
common s bare (Some p ∷ ps) [] all = absurd all
common s bare (Some p ∷ ps) (x ∷ xs) all =
    let rest = common s bare ps xs all.1 in
    (all.0.0 + rest.0, λ more le. rw (value_at_more s all.0.0 more p x (omega arith) all.0.1, rest.1 more (omega arith)) refl)

-- a point has the value that it makes of values that are there
pub value_made : {P A : Type 0} (inputs : P → List (Option P)) (bare : A) (local : P → List A → A) (p : P) (xs : List A) (x : A)
    → HaveValues (gapped inputs bare local) bare (inputs p) xs → local p xs ≡ x → HasValue (gapped inputs bare local) p x
value_made inputs bare local p xs x all made =
    let got = common (gapped inputs bare local) bare (inputs p) xs all in
    (suc got.0, value_gapped inputs bare local got.0 p ∙ ap (option_map (local p)) (got.1 got.0 (omega arith)) ∙ ap Some made)
