-- The sinks that pads, global buffers and clusters give, each with the place beside it.
use Rattle.std.specs.Prelude.{ℕ, List, ◌++◌, map, Option}
use Rattle.ice_base.specs.declared.number.TileAt.{TileAt}
use Rattle.ice_chip.specs.Database.{Parts}
use Rattle.ice_chip.specs.declared.rows.Pad.{Pad}
use Rattle.ice_cells.specs.declared.cell.LogicCell.{LogicCell}
use Rattle.ice_cells.specs.declared.cluster.Cluster.{Cluster}
use Rattle.ice_cells.specs.declared.design.DesignPad.{DesignPad}
use Rattle.ice_cells.specs.declared.root.Root.{Root}
use Rattle.ice_place_defs.specs.Loads.{pad_loads, global_loads, slots_give}
use Rattle.ice_emit_nets.specs.Ends.{End, load_end, cell_ends, control_ends}

abbrev pub pad_ends : Parts → DesignPad → Pad → List End
pad_ends parts pad place = map (load_end parts) (pad_loads place pad)

abbrev pub global_ends : Parts → Option Root → ℕ → List End
global_ends parts root n = map (load_end parts) (global_loads parts n root)

abbrev pub cluster_ends : Parts → List LogicCell → Cluster → TileAt → List End
cluster_ends parts cells cluster t = slots_give (cell_ends parts) cells t 0 cluster.cells ++ control_ends parts t cluster.control
