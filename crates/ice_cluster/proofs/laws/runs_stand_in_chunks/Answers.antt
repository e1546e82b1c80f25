use Rattle.ice_cluster.proofs.ChunkLaws.{are_chunks}
use Rattle.ice_cluster.proofs.laws.runs_stand_in_chunks.Goals as goal

pub returns : goal.returns
returns c d clusters formed of_cells = are_chunks d clusters of_cells
