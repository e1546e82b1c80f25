use Rattle.std.proofs.Common.{◌≡◌, take}
use Rattle.ice_check.proofs.order.narrowed.Given as goal

abbrev pub invariant-loop-point : goal.invariant-loop-point
invariant-loop-point l = l.numbers.items ≡ take l.point-index l.points
