use Rattle.std.proofs.Common.{All, take}
use Rattle.ice_net.specs.Formed.{IsBelow}
use Rattle.ice_net.proofs.formed.are_below.Given as goal

abbrev pub invariant-loop-signal : goal.invariant-loop-signal
invariant-loop-signal l = All (IsBelow l.signals) (take l.signal-index l.list)
