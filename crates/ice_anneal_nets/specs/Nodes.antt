-- Nets by nodes.
use Rattle.std.specs.Prelude.{ℕ, ◌+◌, Bool, Option, None, Some, List, [], ◌∷◌, ◌++◌, map, filter, option_map, slice_get, length, is_some, if◌then◌else◌}
use Rattle.std.specs.Option.{option_map_or}
use Rattle.std.specs.List.{range_with_len}
use Rattle.ice_base.specs.declared.number.TileAt.{TileAt}
use Rattle.ice_chip.specs.Database.{Parts}
use Rattle.ice_chip.specs.declared.rows.Pad.{Pad}
use Rattle.ice_cells.specs.declared.cluster.Cluster.{Cluster}
use Rattle.ice_cells.specs.declared.root.Root.{Root}
use Rattle.ice_cells.specs.declared.root.Root.TheVariants.{PadIn, CellOut, GlobalOut, CarryOut}
use Rattle.ice_cells.specs.Same.{same_root}
use Rattle.ice_place_defs.specs.Plan.{Plan, slot_in}
use Rattle.ice_place_defs.specs.Loads.{fed_roots}
use Rattle.ice_place_defs.specs.Length.{pad_root, cell_root}
use Rattle.ice_place_defs.specs.declared.placed.Placed.{Placed}
use Rattle.ice_anneal_board.specs.declared.net.Node.{Node}
use Rattle.ice_anneal_board.specs.declared.net.Node.TheVariants.{Cluster as of_cluster, Fixed as of_tile}
use Rattle.ice_anneal_board.specs.declared.net.NetNodes.{NetNodes}
use Rattle.ice_anneal_nets.specs.declared.read.Read.{Read}
use Rattle.ice_anneal_nets.specs.Reads.{pads_reads, globals_reads, clusters_reads}

abbrev pub reads_of : Parts → Plan → List Read
reads_of parts plan = pads_reads plan.ports plan.design.pads ++ globals_reads parts plan.globals (fed_roots plan.direct plan.design.globals) ++ clusters_reads plan.design.cells 0 plan.clusters

-- ---- nodes of roots
abbrev pub pad_node : Pad → Node
pad_node pad = of_tile pad.tile

-- the first of these clusters that holds the cell; the first has that number
abbrev pub holder : ℕ → List Cluster → ℕ → Option Node
holder k [] cell = None
holder k (cluster ∷ clusters) cell = if is_some (slot_in cluster cell) then Some (of_cluster k) else holder (k + 1) clusters cell

abbrev pub root_node : Plan → Root → Option Node
root_node plan (PadIn k) = option_map pad_node (slice_get plan.ports k)
root_node plan (CellOut c) = holder 0 plan.clusters c
root_node plan (GlobalOut g) = None
root_node plan (CarryOut c) = None

-- ---- nodes of nets
abbrev pub is_of : Root → Read → Bool
is_of root read = same_root read.root root

abbrev pub read_node : Read → Node
read_node read = read.node

abbrev pub readers : List Read → Root → List Node
readers all root = map read_node (filter (is_of root) all)

abbrev pub behind : List Node → Node → List Node
behind nodes node = node ∷ nodes

-- the node of a root, and those that read it
abbrev pub nodes_of : Plan → List Read → Root → List Node
nodes_of plan all root = option_map_or (behind (readers all root)) (root_node plan root) []

-- the nets of pads, and then those of cells
abbrev pub all_nodes : Plan → List Read → List (List Node)
all_nodes plan all =
    map (λ k. nodes_of plan all (pad_root k)) (range_with_len 0 (length plan.ports)) ++ map (λ c. nodes_of plan all (cell_root c)) (range_with_len 0 (length plan.design.cells))

abbrev pub nodes_in : List NetNodes → List (List Node)
nodes_in nets = map (λ (net : NetNodes). net.nodes.items) nets

-- ---- placements of the clusters of a design
abbrev pub plan_at : Placed → List TileAt → Plan
plan_at placed at = record { design = placed.design.now; clusters = placed.clusters.now; at = at; ports = placed.ports.now; globals = placed.globals.now; direct = placed.direct.now }
