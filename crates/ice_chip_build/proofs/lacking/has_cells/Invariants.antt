use Rattle.std.proofs.Common.{◌≡◌, true, map}
use Rattle.ice_chip.specs.Names.{cell_function}
use Rattle.ice_chip.specs.LacksFunction.{has_each}
use Rattle.ice_chip.specs.Views.{function_view}
use Rattle.ice_chip.specs.declared.rows.TileKind.TheVariants.{Logic}
use Rattle.ice_chip_build.proofs.lacking.has_cells.Given as goal

abbrev pub invariant-loop-cell : goal.invariant-loop-cell
invariant-loop-cell l = has_each Logic cell_function l.cell (map function_view l.functions) ≡ true
