-- The pad or the cell that a root is.
use Rattle.std.specs.Prelude.{ℕ, Option, None, Some}
use Rattle.ice_cells.specs.declared.root.Root.{Root}
use Rattle.ice_cells.specs.declared.root.Root.TheVariants.{PadIn, CellOut, GlobalOut, CarryOut}

abbrev pub pad_number : Root → Option ℕ
pad_number (PadIn k) = Some k
pad_number (CellOut c) = None
pad_number (GlobalOut g) = None
pad_number (CarryOut c) = None

abbrev pub cell_number : Root → Option ℕ
cell_number (PadIn k) = None
cell_number (CellOut c) = Some c
cell_number (GlobalOut g) = None
cell_number (CarryOut c) = None
