use Rattle.ice_back_laws.proofs.RootLevels.{points_rooted}
use Rattle.ice_back_laws.proofs.laws.points_have_their_roots_levels.Goals as goal

pub returns : goal.returns
returns c = points_rooted
