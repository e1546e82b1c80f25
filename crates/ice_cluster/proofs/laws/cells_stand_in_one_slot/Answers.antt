use Rattle.ice_cluster.proofs.SlotLaws.{are_slots}
use Rattle.ice_cluster.proofs.laws.cells_stand_in_one_slot.Goals as goal

pub returns : goal.returns
returns c d clusters formed of_cells = are_slots d clusters formed of_cells
