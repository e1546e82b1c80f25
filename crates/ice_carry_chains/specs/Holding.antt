-- How cells stand in the runs of a design.
use Rattle.std.specs.Prelude.{◌≡◌, ℕ, ◌+◌, ◌<◌, true, None, length, slice_index_or}
use Rattle.ice_base_values.specs.Order.{At, Has, StandOnce}
use Rattle.ice_cells.specs.declared.cell.LogicCell.{LogicCell}
use Rattle.ice_cells.specs.declared.design.Design.{Design}
use Rattle.ice_cells.specs.declared.design.Run.{Run}
use Rattle.ice_cells.specs.Formed.{cells_in_runs}

pub record HoldCarries (d : Design) : Type 0 where
  -- a cell stands in the runs once at most, and one with a carry does
  pub once : StandOnce (cells_in_runs d)
  pub carried : (c : ℕ) (cell : LogicCell) → At d.cells c cell → cell.carry ≡ true → Has (cells_in_runs d) c
  pub inside : (c : ℕ) → Has (cells_in_runs d) c → c < length d.cells
  -- all cells of a run but the last have a carry
  pub carries : (r i c : ℕ) (run : Run) (cell : LogicCell) → At d.runs r run → At run.cells i c → i + 1 < length run.cells → At d.cells c cell → cell.carry ≡ true
  -- a carry comes to the last input only behind the first cell of a run, and that input has no root
  pub chained : (c : ℕ) (cell : LogicCell) → At d.cells c cell → cell.carry_to_in3 ≡ true
      → (slice_index_or cell.ins 3 None ≡ None) × ((r : ℕ) × (i : ℕ) × (run : Run) × At d.runs r run × At run.cells (i + 1) c)
