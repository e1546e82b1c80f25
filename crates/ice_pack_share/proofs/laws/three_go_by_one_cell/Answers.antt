use Rattle.ice_pack_share.proofs.HomeLaws.{three_go}
use Rattle.ice_pack_share.proofs.laws.three_go_by_one_cell.Goals as goal

pub returns : goal.returns
returns c0 = λ os cells bare j. three_go os cells bare j
