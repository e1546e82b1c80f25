-- What reads roots in a design, by nodes: clusters, which may move, and tiles that stay.
use Rattle.std.specs.Prelude.{ℕ, ◌+◌, Option, None, Some, List, [], ◌∷◌, ◌++◌, slice_get, slice_index_or}
use Rattle.std.specs.Option.{option_map_or}
use Rattle.ice_base.specs.declared.number.TileAt.{TileAt}
use Rattle.ice_chip.specs.Database.{Parts}
use Rattle.ice_chip.specs.Lookups.{global_of}
use Rattle.ice_chip.specs.declared.rows.Pad.{Pad}
use Rattle.ice_cells.specs.declared.cell.Control.{Control}
use Rattle.ice_cells.specs.declared.cell.LogicCell.{LogicCell}
use Rattle.ice_cells.specs.declared.cluster.Cluster.{Cluster}
use Rattle.ice_cells.specs.declared.design.DesignPad.{DesignPad}
use Rattle.ice_cells.specs.declared.root.Root.{Root}
use Rattle.ice_anneal_board.specs.declared.net.Node.{Node}
use Rattle.ice_anneal_board.specs.declared.net.Node.TheVariants.{Cluster as of_cluster, Fixed as of_tile}
use Rattle.ice_anneal_nets.specs.declared.read.Read.{Read}

-- a node reads a root, or nothing
abbrev pub read_at : Node → Option Root → List Read
read_at node None = []
read_at node (Some root) = (record { root = root; node = node }) ∷ []

-- ---- pads
abbrev pub pad_reads : Pad → DesignPad → List Read
pad_reads place pad = read_at (of_tile place.tile) pad.drive ++ read_at (of_tile place.tile) pad.enable

abbrev pub pads_reads : List Pad → List DesignPad → List Read
pads_reads [] pads = []
pads_reads (place ∷ places) [] = []
pads_reads (place ∷ places) (pad ∷ pads) = pad_reads place pad ++ pads_reads places pads

-- ---- global buffers
abbrev pub feed_reads : Option Root → TileAt → List Read
feed_reads root t = read_at (of_tile t) root

abbrev pub global_reads : Parts → ℕ → Option Root → List Read
global_reads parts n root = option_map_or (feed_reads root) (global_of parts n) []

abbrev pub globals_reads : Parts → List ℕ → List (Option Root) → List Read
globals_reads parts [] roots = []
globals_reads parts (n ∷ ns) [] = []
globals_reads parts (n ∷ ns) (root ∷ roots) = global_reads parts n root ++ globals_reads parts ns roots

-- ---- clusters
abbrev pub cell_reads : Node → LogicCell → List Read
cell_reads node cell =
    read_at node (slice_index_or cell.ins 0 None) ++ read_at node (slice_index_or cell.ins 1 None)
    ++ read_at node (slice_index_or cell.ins 2 None) ++ read_at node (slice_index_or cell.ins 3 None)

abbrev pub control_reads : Node → Option Control → List Read
control_reads node None = []
control_reads node (Some control) = read_at node control.clock ++ read_at node control.enable ++ read_at node control.reset

abbrev pub slot_reads : List LogicCell → Node → Option ℕ → List Read
slot_reads cells node None = []
slot_reads cells node (Some c) = option_map_or (cell_reads node) (slice_get cells c) []

abbrev pub slots_reads : List LogicCell → Node → List (Option ℕ) → List Read
slots_reads cells node [] = []
slots_reads cells node (slot ∷ slots) = slot_reads cells node slot ++ slots_reads cells node slots

abbrev pub cluster_reads : List LogicCell → ℕ → Cluster → List Read
cluster_reads cells k cluster = slots_reads cells (of_cluster k) cluster.cells ++ control_reads (of_cluster k) cluster.control

-- clusters, the first of which has that number
abbrev pub clusters_reads : List LogicCell → ℕ → List Cluster → List Read
clusters_reads cells k [] = []
clusters_reads cells k (cluster ∷ clusters) = cluster_reads cells k cluster ++ clusters_reads cells (k + 1) clusters
