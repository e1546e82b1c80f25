use Rattle.std.proofs.Common.{◌≡◌, map, take}
use Rattle.ice_check_promote.specs.Promoted.{settled_of}
use Rattle.ice_check_promote.proofs.counting.settled.Given as goal

abbrev pub invariant-loop-cell : goal.invariant-loop-cell
invariant-loop-cell l = l.list.items ≡ map settled_of (take l.cell-index l.cells)
