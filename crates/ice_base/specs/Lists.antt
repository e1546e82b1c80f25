-- Lists of values that may be unknown, and of names, each numbered by its place.
use Rattle.std.specs.Prelude.{Option, Some, None, List, [], ◌∷◌, option_map, ℕ, ◌++◌, if◌then◌else◌, bytes_eq}
use Rattle.std.specs.List.{list_any, position_or_len}

-- all the values of a list, where each is known
abbrev pub all_known : {A : Type 0} → List (Option A) → Option (List A)
all_known [] = Some []
all_known (None ∷ others) = None
all_known (Some x ∷ others) = option_map (λ xs. x ∷ xs) (all_known others)

-- the names after one more appears: a new name goes last
abbrev pub with_name : List (List ℕ) → List ℕ → List (List ℕ)
with_name names name = if list_any (bytes_eq name) names then names else names ++ name ∷ []

-- the number of a name: its place, which for a new name is behind all others
abbrev pub number_of_name : List (List ℕ) → List ℕ → ℕ
number_of_name names name = position_or_len (bytes_eq name) names
