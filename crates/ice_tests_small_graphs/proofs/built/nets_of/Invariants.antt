use Rattle.ice_negotiate_defs.specs.Rounds.{AreNets}
use Rattle.ice_tests_small_graphs.proofs.built.nets_of.Given as goal

abbrev pub invariant-loop-lines : goal.invariant-loop-lines
invariant-loop-lines l = AreNets l.graph l.list.items
