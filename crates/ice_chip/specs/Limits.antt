-- The limits of a chip database.
use Rattle.std.specs.Prelude.{ℕ}

-- the columns, and the rows of places
abbrev pub most_places : ℕ
most_places = 256

-- the wires
abbrev pub most_wires : ℕ
most_wires = 1048576

-- the switch rows
abbrev pub most_rows : ℕ
most_rows = 16777216
