use Rattle.std.proofs.Common.{◌≡◌, map, take}
use Rattle.ice_check_promote.specs.Promoted.{clock_of}
use Rattle.ice_check_promote.proofs.counting.clocks.Given as goal

abbrev pub invariant-loop-cell : goal.invariant-loop-cell
invariant-loop-cell l = l.list.items ≡ map clock_of (take l.cell-index l.cells)
