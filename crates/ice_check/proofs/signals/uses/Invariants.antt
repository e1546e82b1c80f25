use Rattle.std.proofs.Common.{◌≡◌, take}
use Rattle.std.specs.List.{flat_map}
use Rattle.ice_check.specs.Faults.{uses_of}
use Rattle.ice_check.proofs.signals.uses.Given as goal

abbrev pub invariant-loop-cell : goal.invariant-loop-cell
invariant-loop-cell l = l.list.items ≡ flat_map uses_of (take l.cell-index l.cells)
