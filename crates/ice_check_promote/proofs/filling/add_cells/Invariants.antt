use Rattle.std.proofs.Common.{◌≡◌, map, take}
use Rattle.ice_check_promote.specs.Filling.{clocked_cell}
use Rattle.ice_net_additions.specs.Adding.{with_cells}
use Rattle.ice_check_promote.proofs.filling.add_cells.Given as goal

abbrev pub invariant-loop-cell : goal.invariant-loop-cell
invariant-loop-cell l = l.made ≡ with_cells l.fn.made (take l.cell-index (map (clocked_cell l.targets.count l.targets.clocks.items l.outer) l.cells))
