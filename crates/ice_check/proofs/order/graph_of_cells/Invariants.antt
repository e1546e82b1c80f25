use Rattle.std.proofs.Common.{◌≡◌, take}
use Rattle.std.specs.Prelude.{map, slice_index_or}
use Rattle.ice_net.specs.declared.cell.Cell.{Cell}
use Rattle.ice_net.specs.declared.driver.SignalDriver.TheVariants.{Nothing}
use Rattle.ice_base_values.specs.System.{present}
use Rattle.ice_net.specs.Meaning.{cell_reads}
use Rattle.ice_check.specs.Loops.{cells_at}
use Rattle.ice_check.proofs.order.graph_of_cells.Given as goal

abbrev pub invariant-loop-cell : goal.invariant-loop-cell
invariant-loop-cell l = l.graph ≡ map (λ (cell : Cell). cells_at (λ s. slice_index_or l.drivers s Nothing) (present (cell_reads cell))) (take l.cell-index l.cells)
