-- A design whose runs are made, by what it has of them.
use Rattle.std.specs.Prelude.{ℕ, List, [], map, Option}
use Rattle.ice_cells.specs.declared.cell.LogicCell.{LogicCell}
use Rattle.ice_cells.specs.declared.design.Design.{Design}
use Rattle.ice_cells.specs.declared.design.Run.{Run}
use Rattle.ice_cells.specs.Moves.{renamed_source, cells_after}
use Rattle.ice_cells.specs.Runs.{renamed_pad}

-- readers are renamed by the numbers of the cells that flip-flops move to, and of those that pass carries on
abbrev pub with_runs : Design → List Run → List LogicCell → List (Option ℕ) → List ℕ → List (Option ℕ) → Design
with_runs d runs cells fed movers moved = record {
  cells = cells_after moved fed cells movers;
  runs = runs;
  pads = map (renamed_pad moved fed) d.pads;
  globals = map (renamed_source moved fed) d.globals;
  carries = [];
}
