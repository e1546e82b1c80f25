use Rattle.std.proofs.Common.{All, take}
use Rattle.ice_net.specs.Formed.{IsPresent}
use Rattle.ice_net.proofs.formed.are_present.Given as goal

abbrev pub invariant-loop-signal : goal.invariant-loop-signal
invariant-loop-signal l = All (IsPresent l.signals) (take l.signal-index l.list)
