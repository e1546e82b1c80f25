use Rattle.std.proofs.Common.{◌≡◌, take}
use Rattle.ice_negotiate_round.proofs.tasks.copy_of.Given as goal

abbrev pub invariant-loop-sink : goal.invariant-loop-sink
invariant-loop-sink l = l.copy.items ≡ take l.sink-index l.sinks
