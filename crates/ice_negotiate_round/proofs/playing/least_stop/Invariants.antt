use Rattle.std.proofs.Common.{◌≡◌, take}
use Rattle.ice_negotiate_round.specs.Played.{soonest}
use Rattle.ice_negotiate_round.proofs.playing.least_stop.Given as goal

abbrev pub invariant-loop-done : goal.invariant-loop-done
invariant-loop-done l = l.best ≡ soonest (take l.done-index l.dones)
