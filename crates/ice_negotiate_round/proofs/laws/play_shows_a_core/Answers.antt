use Rattle.ice_negotiate_round.proofs.Moments.{play_shows_core, trees_are_new_routes}
use Rattle.ice_negotiate_round.proofs.laws.play_shows_a_core.Goals as goal

pub returns-clause-shown : goal.returns-clause-shown
returns-clause-shown c = play_shows_core

pub returns-clause-trees : goal.returns-clause-trees
returns-clause-trees c = trees_are_new_routes
