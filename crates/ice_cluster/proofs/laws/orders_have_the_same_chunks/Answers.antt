use Rattle.ice_cluster.proofs.SameChunks.{same_chunks}
use Rattle.ice_cluster.proofs.laws.orders_have_the_same_chunks.Goals as goal

pub returns : goal.returns
returns c d clusters of_cells = same_chunks d clusters of_cells
