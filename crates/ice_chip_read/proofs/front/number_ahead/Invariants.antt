use Rattle.ice_chip_read.specs.Fronts.{AreDigits}
use Rattle.ice_chip_read.proofs.front.number_ahead.Given as goal

abbrev pub invariant-loop-k : goal.invariant-loop-k
invariant-loop-k l = AreDigits l.text l.k l.number
