use Rattle.ice_pack_share.proofs.HomeLaws.{home_opened}
use Rattle.ice_pack_share.proofs.laws.cells_go_to_opened_cells.Goals as goal

pub returns : goal.returns
returns c0 = λ os cells bare j kept. home_opened os cells bare j kept
