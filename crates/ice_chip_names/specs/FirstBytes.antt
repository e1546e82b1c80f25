-- The first bytes of the names of wires of cells, pads and block RAMs, and of globals.
use Rattle.std.specs.Prelude.{ℕ, ◌==◌, Bool, ◌||◌, false, List, [], ◌∷◌}

-- the name begins with `l`, `i`, `g`, `c`, `f` or `r`: 108, 105, 103, 99, 102, 114
abbrev pub may_be_wire : List ℕ → Bool
may_be_wire [] = false
may_be_wire (a ∷ name) = (a == 108) || (a == 105) || (a == 103) || (a == 99) || (a == 102) || (a == 114)
