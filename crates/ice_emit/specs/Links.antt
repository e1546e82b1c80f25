-- The rows of a cluster beside its tile.
use Rattle.std.specs.Prelude.{ℕ, List}
use Rattle.ice_base.specs.declared.number.TileAt.{TileAt}
use Rattle.ice_base.specs.declared.number.WireNo.{WireNo}
use Rattle.ice_chip.specs.Database.{Parts}
use Rattle.ice_cells.specs.declared.cell.LogicCell.{LogicCell}
use Rattle.ice_cells.specs.declared.cluster.Cluster.{Cluster}
use Rattle.ice_decode.specs.declared.driver.Switch.{Switch}
use Rattle.ice_emit_defs.specs.Links.{cluster_links}

abbrev pub number : WireNo → ℕ
number w = w.0

abbrev pub cluster_link : Parts → List LogicCell → Cluster → TileAt → List Switch
cluster_link parts cells cluster t = cluster_links parts cells t cluster
