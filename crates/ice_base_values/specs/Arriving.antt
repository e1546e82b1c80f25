-- Values that arrive: what a point has for a value, said point by point.
use Rattle.std.specs.Prelude.{◌≡◌, ℕ, ◌<◌, Option, None, Some, List, [], ◌∷◌}
use Rattle.ice_base_values.specs.System.{System, value}

-- Input by input, the connected points are to have these values, each at a measure below m, and the others read `bare`. M says
-- which point is to have which value, and at which measure.
abbrev pub Arrive : {P A : Type 0} → (ℕ → P → A → Type 0) → A → ℕ → List (Option P) → List A → Type 0
Arrive M bare m [] [] = Unit {0}
Arrive M bare m [] (x ∷ xs) = ⊥
Arrive M bare m (None ∷ ps) [] = ⊥
Arrive M bare m (None ∷ ps) (x ∷ xs) = (x ≡ bare) × Arrive M bare m ps xs
Arrive M bare m (Some p ∷ ps) [] = ⊥
Arrive M bare m (Some p ∷ ps) (x ∷ xs) = ((k : ℕ) × (k < m) × M k p x) × Arrive M bare m ps xs

-- the point makes the value of values that arrive
pub record IsMade {P A : Type 0} (inputs : P → List (Option P)) (bare : A) (local : P → List A → A) (M : ℕ → P → A → Type 0) (m : ℕ) (p : P) (x : A) : Type 0 where
  pub values : List A
  pub arrive : Arrive M bare m (inputs p) values
  pub made : local p values ≡ x

-- the point has the value, with some number of steps
abbrev pub HasValue : {P A : Type 0} → System P A → P → A → Type 0
HasValue s p x = (steps : ℕ) × (value s steps p ≡ Some x)

-- input by input, the connected points have these values, and the others read `bare`
abbrev pub HaveValues : {P A : Type 0} → System P A → A → List (Option P) → List A → Type 0
HaveValues s bare [] [] = Unit {0}
HaveValues s bare [] (x ∷ xs) = ⊥
HaveValues s bare (None ∷ ps) [] = ⊥
HaveValues s bare (None ∷ ps) (x ∷ xs) = (x ≡ bare) × HaveValues s bare ps xs
HaveValues s bare (Some p ∷ ps) [] = ⊥
HaveValues s bare (Some p ∷ ps) (x ∷ xs) = HasValue s p x × HaveValues s bare ps xs
