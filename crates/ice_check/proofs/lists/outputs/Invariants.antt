use Rattle.std.proofs.Common.{◌≡◌, map, take}
use Rattle.ice_net.specs.Drivers.{output_of}
use Rattle.ice_check.proofs.lists.outputs.Given as goal

abbrev pub invariant-loop-cell : goal.invariant-loop-cell
invariant-loop-cell l = l.list.items ≡ map output_of (take l.cell-index l.cells)
