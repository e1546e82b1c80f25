-- All that reads in a design, and what it reads.
use Rattle.std.specs.Prelude.{ℕ, ◌+◌, Bool, List, [], ◌∷◌, ◌++◌, map, flat_map, Option, None, Some, slice_index_or}
use Rattle.std.specs.List.{list_any}
use Rattle.ice_net.specs.declared.kind.Reset.{Reset}
use Rattle.ice_cells.specs.declared.cell.Control.{Control}
use Rattle.ice_cells.specs.declared.cell.LogicCell.{LogicCell}
use Rattle.ice_cells.specs.declared.design.Design.{Design}
use Rattle.ice_cells.specs.declared.design.DesignPad.{DesignPad}
use Rattle.ice_cells.specs.declared.follow.Reader.{Reader}
use Rattle.ice_cells.specs.declared.follow.Reader.TheVariants.{Into, Last, Else}
use Rattle.ice_cells.specs.declared.root.CarryIn.{CarryIn}
use Rattle.ice_cells.specs.declared.root.CarryIn.TheVariants.{Fixed, Read}
use Rattle.ice_cells.specs.declared.root.Root.{Root}
use Rattle.ice_cells.specs.Same.{same_source}

-- what is read, and what reads it
abbrev pub Reading : Type 0
Reading = Option Root × Reader

abbrev pub plain : Option Root → Reading
plain root = (root, Else)

abbrev pub carry_reading : ℕ × CarryIn → Reading
carry_reading (c, Fixed level) = (None, Else)
carry_reading (c, Read root) = (Some root, Into c)

abbrev pub control_readings : Option (Control × Reset) → List Reading
control_readings None = []
control_readings (Some flop) = plain flop.0.clock ∷ plain flop.0.enable ∷ plain flop.0.reset ∷ []

abbrev pub cell_readings : ℕ → LogicCell → List Reading
cell_readings c cell =
    plain (slice_index_or cell.ins 0 None) ∷ plain (slice_index_or cell.ins 1 None) ∷ plain (slice_index_or cell.ins 2 None) ∷ (slice_index_or cell.ins 3 None, Last c)
    ∷ control_readings cell.flop

-- the readings of cells, the first of which has that number
abbrev pub cells_readings : ℕ → List LogicCell → List Reading
cells_readings c [] = []
cells_readings c (cell ∷ cells) = cell_readings c cell ++ cells_readings (c + 1) cells

abbrev pub pad_readings : DesignPad → List Reading
pad_readings pad = plain pad.drive ∷ plain pad.enable ∷ []

-- all readings: first what comes into carries
abbrev pub readings : Design → List Reading
readings d = map carry_reading d.carries ++ cells_readings 0 d.cells ++ flat_map pad_readings d.pads ++ map plain d.globals

-- ---- what is read, whatever reads it
abbrev pub carry_root : ℕ × CarryIn → Option Root
carry_root (c, Fixed level) = None
carry_root (c, Read root) = Some root

abbrev pub control_roots : Option (Control × Reset) → List (Option Root)
control_roots None = []
control_roots (Some flop) = flop.0.clock ∷ flop.0.enable ∷ flop.0.reset ∷ []

abbrev pub cell_roots : LogicCell → List (Option Root)
cell_roots cell = slice_index_or cell.ins 0 None ∷ slice_index_or cell.ins 1 None ∷ slice_index_or cell.ins 2 None ∷ slice_index_or cell.ins 3 None ∷ control_roots cell.flop

abbrev pub pad_roots : DesignPad → List (Option Root)
pad_roots pad = pad.drive ∷ pad.enable ∷ []

abbrev pub roots_read : Design → List (Option Root)
roots_read d = map carry_root d.carries ++ flat_map cell_roots d.cells ++ flat_map pad_roots d.pads ++ d.globals

-- something reads the root
abbrev pub is_read : Design → Root → Bool
is_read d root = list_any (same_source (Some root)) (roots_read d)
