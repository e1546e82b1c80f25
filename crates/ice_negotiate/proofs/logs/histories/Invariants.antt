use Rattle.std.proofs.Common.{◌≡◌, ◌++◌, drop}
use Rattle.ice_negotiate_defs.specs.Logs.{beyond}
use Rattle.ice_negotiate.proofs.logs.histories.Given as goal

abbrev pub invariant-loop-wire : goal.invariant-loop-wire
invariant-loop-wire l = beyond 0 0 l.history ≡ l.list.items ++ beyond 0 l.wire (drop l.wire l.history)
