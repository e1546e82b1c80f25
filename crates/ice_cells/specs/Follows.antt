-- Which carry follows which: who reads the carry of each cell.
use Rattle.std.specs.Prelude.{ℕ, ◌==◌, List, length, Option, None, Some, if◌then◌else◌}
use Rattle.ice_cells.specs.declared.design.Design.{Design}
use Rattle.ice_cells.specs.declared.follow.Follow.{Follow}
use Rattle.ice_cells.specs.declared.follow.Follow.TheVariants.{Nobody, Next, Other}
use Rattle.ice_cells.specs.declared.follow.Reader.{Reader}
use Rattle.ice_cells.specs.declared.follow.Reader.TheVariants.{Into, Last, Else}
use Rattle.ice_cells.specs.declared.root.Root.{Root}
use Rattle.ice_cells.specs.declared.root.Root.TheVariants.{PadIn, CellOut, GlobalOut, CarryOut}
use Rattle.ice_cells.specs.Readings.{Reading, readings}
use Rattle.ice_cells.specs.Tables.{table, gathered, scattered}

-- ---- how each carry is read
-- one more reading. The last input of a cell whose carry follows is read beside it.
abbrev pub next_after : ℕ → Reader → Follow
next_after d (Into e) = Other
next_after d (Last e) = if d == e then Next d else Other
next_after d Else = Other

abbrev pub first_after : Reader → Follow
first_after (Into d) = Next d
first_after (Last d) = Other
first_after Else = Other

abbrev pub after : Follow → Reading → Follow
after Nobody reading = first_after reading.1
after (Next d) reading = next_after d reading.1
after Other reading = Other

abbrev pub carry_at : Option Root → Option ℕ
carry_at None = None
carry_at (Some (PadIn k)) = None
carry_at (Some (CellOut c)) = None
carry_at (Some (GlobalOut g)) = None
carry_at (Some (CarryOut c)) = Some c

abbrev pub carry_read : Reading → Option ℕ
carry_read reading = carry_at reading.0

-- how a cell's carry is read
abbrev pub follow : Design → ℕ → Follow
follow d c = gathered carry_read after c Nobody (readings d)

abbrev pub follows : Design → List Follow
follows d = table (follow d) (length d.cells)

-- the same, all cells at once
abbrev pub marked : List Follow → List Reading → List Follow
marked marks reads = scattered carry_read after Nobody marks reads
