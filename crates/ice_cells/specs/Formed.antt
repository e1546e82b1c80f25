-- What every design of a netlist keeps to, once its runs are made.
use Rattle.std.specs.Prelude.{◌≡◌, ℕ, ◌+◌, ◌<◌, true, None, Some, List, [], length, flat_map, slice_index_or}
use Rattle.std.proofs.Common.{◌⊎◌}
use Rattle.ice_base_values.specs.Order.{At, Has, StandOnce}
use Rattle.ice_net.specs.declared.kind.Reset.TheVariants.{Nothing}
use Rattle.ice_cells.specs.declared.cell.Control.{Control}
use Rattle.ice_cells.specs.declared.cell.LogicCell.{LogicCell}
use Rattle.ice_cells.specs.declared.design.Design.{Design}
use Rattle.ice_cells.specs.declared.design.DesignPad.{DesignPad}
use Rattle.ice_cells.specs.declared.design.Run.{Run}
use Rattle.ice_cells.specs.declared.root.Root.{Root}
use Rattle.ice_cells.specs.declared.root.Root.TheVariants.{PadIn, CellOut, GlobalOut, CarryOut}
use Rattle.ice_cells.specs.Pieces.{piece, control_at}
use Rattle.ice_cells.specs.Readings.{roots_read, is_read}

-- a root that may be read: a pad, a cell or a global buffer of the design, and no carry
abbrev pub IsRootOf : Design → Root → Type 0
IsRootOf d (PadIn k) = k < length d.pads
IsRootOf d (CellOut c) = c < length d.cells
IsRootOf d (GlobalOut g) = g < length d.globals
IsRootOf d (CarryOut c) = ⊥

-- the cells of all runs, one run behind the other
abbrev pub cells_in_runs : Design → List ℕ
cells_in_runs d = flat_map (λ (run : Run). run.cells) d.runs

-- a pad: an input (1), which nothing drives, an output (25), or an output with an enable (41)
abbrev pub IsPad : DesignPad → Type 0
IsPad pad =
    ((pad.pin_type ≡ 1) × (pad.drive ≡ None) × (pad.enable ≡ None)) ⊎ (((pad.pin_type ≡ 25) × (pad.enable ≡ None)) ⊎ (pad.pin_type ≡ 41))

pub record IsFormed (d : Design) : Type 0 where
  pub four : (c : ℕ) (cell : LogicCell) → At d.cells c cell → length cell.ins ≡ 4
  pub roots : (r : Root) → Has (roots_read d) (Some r) → IsRootOf d r
  -- pads stand in the order of ports, and tell whether something reads them
  pub ports : (k : ℕ) (pad : DesignPad) → At d.pads k pad → pad.port ≡ k
  pub reads : (k : ℕ) (pad : DesignPad) → At d.pads k pad → pad.reads ≡ is_read d (PadIn k)
  pub pads : (k : ℕ) (pad : DesignPad) → At d.pads k pad → IsPad pad
  -- a cell stands in the runs once at most, and one with a carry does
  pub once : StandOnce (cells_in_runs d)
  pub carried : (c : ℕ) (cell : LogicCell) → At d.cells c cell → cell.carry ≡ true → Has (cells_in_runs d) c
  pub inside : (c : ℕ) → Has (cells_in_runs d) c → c < length d.cells
  -- all cells of a run but the last have a carry
  pub carries : (r i c : ℕ) (run : Run) (cell : LogicCell) → At d.runs r run → At run.cells i c → i + 1 < length run.cells → At d.cells c cell → cell.carry ≡ true
  -- a carry comes to the last input only behind the first cell of a run, and that input has no root
  pub chained : (c : ℕ) (cell : LogicCell) → At d.cells c cell → cell.carry_to_in3 ≡ true
      → (slice_index_or cell.ins 3 None ≡ None) × ((r : ℕ) × (i : ℕ) × (run : Run) × At d.runs r run × At run.cells (i + 1) c)
  -- a flip-flop that is neither set nor reset has nothing there
  pub resets : (c : ℕ) (cell : LogicCell) (control : Control) → At d.cells c cell → cell.flop ≡ Some (control, Nothing) → control.reset ≡ None
  -- the flip-flops of a chunk of a run are driven alike
  pub alike : (r k i j : ℕ) (b c : ℕ) (run : Run) (one other : Control) → At d.runs r run → At (piece run.cells k) i b → At (piece run.cells k) j c
      → control_at d.cells b ≡ Some one → control_at d.cells c ≡ Some other → one ≡ other
  -- nothing is left of what came into carries before
  pub no_carries : d.carries ≡ []
