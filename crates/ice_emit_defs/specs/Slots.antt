-- Which cell of a placed design stands in which slot of which tile.
use Rattle.std.specs.Prelude.{◌≡◌, ℕ, Some}
use Rattle.ice_base.specs.declared.number.TileAt.{TileAt}
use Rattle.ice_base_values.specs.Order.{At}
use Rattle.ice_cells.specs.declared.cell.LogicCell.{LogicCell}
use Rattle.ice_cells.specs.declared.cluster.Cluster.{Cluster}
use Rattle.ice_place_defs.specs.Plan.{Plan}

-- the cluster stands on the tile
pub record IsOn (plan : Plan) (t : TileAt) (cluster : Cluster) : Type 0 where
  pub number : ℕ
  pub cluster_is : At plan.clusters number cluster
  pub tile_is : At plan.at number t

-- the cell of this number stands in slot i of the tile
pub record StandsIn (plan : Plan) (t : TileAt) (i c : ℕ) (cell : LogicCell) : Type 0 where
  pub cluster : Cluster
  pub on : IsOn plan t cluster
  pub slot : At cluster.cells i (Some c)
  pub cell_is : At plan.design.cells c cell
