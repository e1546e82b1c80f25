use Rattle.ice_sites.proofs.Linked.{legal_on}
use Rattle.ice_sites.proofs.laws.clusters_stand_on_sites.Goals as goal

pub returns : goal.returns
returns c parts chunks at legal = legal_on parts chunks at legal
