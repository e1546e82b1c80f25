use Rattle.std.proofs.Common.{arith}
use Rattle.ice_back_laws.specs.Numbers.{cell_names}
use Rattle.ice_back.proofs.Rooms.{names_here, names_next}
use Rattle.ice_back.proofs.names.add_cell_names.Goals as goal

pub add_names_of_cell-requires : goal.add_names_of_cell-requires
add_names_of_cell-requires c = names_here cell_names c.loop-cell.netlist c.args.cells.now c.loop-cell.cell-index _ (omega arith) c.loop-cell.invariant.0

pub loop-cell-preserved : goal.loop-cell-preserved
loop-cell-preserved c =
    names_next cell_names c.loop-cell.netlist c.add_names_of_cell.new.netlist _ c.args.cells.now c.loop-cell.cell-index _ (omega arith) c.loop-cell.invariant.0 c.loop-cell.invariant.1 c.in_ok-add_names_of_cell.ensures
