use Rattle.ice_tests_small_graphs.proofs.Pushing.{rising_pushed}
use Rattle.ice_tests_small_graphs.proofs.built.add_edge.Goals as goal

pub returns-clause-edges : goal.returns-clause-edges
returns-clause-edges c = rising_pushed _ _ _ _ _ c.requires.edges c.requires.least c.requires.between c.in_ok-push.ensures.items
