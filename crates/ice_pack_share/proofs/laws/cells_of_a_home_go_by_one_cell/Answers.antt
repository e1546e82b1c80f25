use Rattle.ice_pack_share.proofs.HomeLaws.{one_anchor}
use Rattle.ice_pack_share.proofs.laws.cells_of_a_home_go_by_one_cell.Goals as goal

pub returns : goal.returns
returns c0 = λ os cells bare j k kept also same. one_anchor os cells bare j k kept also same
