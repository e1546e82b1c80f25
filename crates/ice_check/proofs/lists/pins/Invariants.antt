use Rattle.std.proofs.Common.{◌≡◌, map, take}
use Rattle.ice_net.specs.Drivers.{pin_of}
use Rattle.ice_check.proofs.lists.pins.Given as goal

abbrev pub invariant-loop-cell : goal.invariant-loop-cell
invariant-loop-cell l = l.list.items ≡ map pin_of (take l.cell-index l.cells)
