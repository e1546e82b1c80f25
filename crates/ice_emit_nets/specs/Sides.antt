-- Two lists side by side: the second is gone through, and the first is looked up by number.
use Rattle.std.specs.Prelude.{ℕ, ◌+◌, List, [], ◌∷◌, ◌++◌, slice_get}
use Rattle.std.specs.Option.{option_map_or}

-- what pairs give, where the first thing of the second list stands beside the one of that number
abbrev pub sides : {A B C : Type 0} → (B → A → List C) → List A → ℕ → List B → List C
sides gives as' k [] = []
sides gives as' k (b ∷ bs) = option_map_or (gives b) (slice_get as' k) [] ++ sides gives as' (k + 1) bs
