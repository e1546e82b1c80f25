use Rattle.ice_negotiate_defs.specs.Rounds.{AreAll}
use Rattle.ice_negotiate.proofs.start.all_nets.Given as goal

abbrev pub invariant-loop-net : goal.invariant-loop-net
invariant-loop-net l = AreAll l.net l.list.items
