use Rattle.std.proofs.Common.{◌≡◌, ◌++◌, drop}
use Rattle.ice_negotiate_defs.specs.Logs.{beyond}
use Rattle.ice_negotiate.proofs.logs.overused.Given as goal

abbrev pub invariant-loop-wire : goal.invariant-loop-wire
invariant-loop-wire l = beyond 1 0 l.counts ≡ l.list.items ++ beyond 1 l.wire (drop l.wire l.counts)
