use Rattle.ice_timing.proofs.Numbers.{IsLatestSoFar}
use Rattle.ice_timing.proofs.latest.latest_of.Given as goal

abbrev pub invariant-loop-number : goal.invariant-loop-number
invariant-loop-number l =
    IsLatestSoFar l.at l.numbers l.number-index l.latest
