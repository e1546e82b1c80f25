use Rattle.std.proofs.Common.{◌≡◌, drop}
use Rattle.std.specs.List.{list_any}
use Rattle.ice_cells.specs.declared.cell.LogicCell.{LogicCell}
use Rattle.ice_pads.specs.Wants.{resets}
use Rattle.ice_pads.proofs.needs.some_resets.Given as goal

abbrev pub invariant-loop-cell : goal.invariant-loop-cell
invariant-loop-cell l = list_any (λ (c : LogicCell). resets l.number c.flop) l.cells ≡ list_any (λ (c : LogicCell). resets l.number c.flop) (drop l.cell-index l.cells)
