-- Readers of the number in a name, tried in a row.
use Rattle.std.specs.Prelude.{ℕ, Option, None, Some, List, [], ◌∷◌, option_map}
use Rattle.std.specs.Option.{option_and_then}
use Rattle.ice_chip_names.specs.Names.{number_of_digit, behind}

-- the number of the digit that a text begins with, and what stands behind it
abbrev pub leading_number : ℕ → List ℕ → Option (ℕ × List ℕ)
leading_number limit [] = None
leading_number limit (d ∷ rest) = option_map (λ n. (n, rest)) (number_of_digit limit d)

-- the number below the limit with whose digit a name goes on behind the prefix, and what stands behind the digit
abbrev pub number_within : ℕ → List ℕ → List ℕ → Option (ℕ × List ℕ)
number_within limit prefix name = option_and_then (leading_number limit) (behind prefix name)

-- ---- readers in a row: the first that knows the name
abbrev pub number_or : {A : Type 0} → (ℕ → A) → Option ℕ → Option A → Option A
number_or meaning None other = other
number_or meaning (Some n) other = Some (meaning n)

abbrev pub numbered_or : {A : Type 0} → (ℕ → List ℕ → Option A) → Option (ℕ × List ℕ) → Option A → Option A
numbered_or meaning None other = other
numbered_or meaning (Some found) other = meaning found.0 found.1
