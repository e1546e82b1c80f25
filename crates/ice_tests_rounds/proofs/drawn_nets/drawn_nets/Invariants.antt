use Rattle.ice_negotiate_defs.specs.Rounds.{AreNets}
use Rattle.ice_tests_rounds.proofs.drawn_nets.drawn_nets.Given as goal

abbrev pub invariant-loop-number : goal.invariant-loop-number
invariant-loop-number g l = AreNets l.graph l.nets.items
