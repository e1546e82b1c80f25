-- The levels of several steps in one list.
use Rattle.std.specs.Prelude.{ℕ, Bool, List, [], ◌∷◌, take, drop}
use Rattle.std.proofs.Common.{zero, suc}

-- so many steps of so many levels each, which stand one behind the other
abbrev pub steps_of : ℕ → ℕ → List Bool → List (List Bool)
steps_of width zero levels = []
steps_of width (suc count) levels = take width levels ∷ steps_of width count (drop width levels)
