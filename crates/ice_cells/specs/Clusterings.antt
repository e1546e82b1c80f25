-- Clusters of the cells that stand in no run, taken in any order.
use Rattle.std.specs.Prelude.{◌≡◌, List, ℕ, ◌++◌, map, IsPermutation}
use Rattle.ice_cells.specs.declared.cell.LogicCell.{LogicCell}
use Rattle.ice_cells.specs.declared.cluster.Clusters.{Clusters}
use Rattle.ice_cells.specs.declared.cluster.TileCells.{TileCells}
use Rattle.ice_cells.specs.declared.design.Design.{Design}
use Rattle.ice_cells.specs.declared.design.Run.{Run}
use Rattle.ice_cells.specs.Clusters.{runs_pieces, sets_pieces, plain_pieces, filled, left, loose_flops, loose_plains, with_slots}
use Rattle.ice_cells.specs.Sets.{FlopCell}

-- ---- groups, by the cells that stand in no run
-- the chunks of runs, and the flip-flops of each control set in eights
abbrev pub opened_by : List LogicCell → List Run → List FlopCell → List TileCells
opened_by cells runs flops = runs_pieces cells 0 runs ++ sets_pieces flops

-- plain cells fill these, and then stand in groups of their own
abbrev pub groups_by : List LogicCell → List Run → List FlopCell → List ℕ → List TileCells
groups_by cells runs flops plains = filled (opened_by cells runs flops) plains ++ plain_pieces (left (opened_by cells runs flops) plains)

abbrev pub clusters_with : Design → List FlopCell → List ℕ → Clusters
clusters_with d flops plains = record { list = map with_slots (groups_by d.cells d.runs flops plains) }

-- ---- clusters of a design
-- they are made as `clusters_of` makes them, of the same cells in some order
pub record IsClustering (d : Design) (clusters : Clusters) : Type 0 where
  pub flops : List FlopCell
  pub plains : List ℕ
  pub flops_are : IsPermutation (loose_flops d.cells d.runs) flops
  pub plains_are : IsPermutation (loose_plains d.cells d.runs) plains
  pub is : clusters ≡ clusters_with d flops plains
