-- Each cluster among the nodes is one of the design.
use Rattle.std.proofs.Common.{◌≡◌, ℕ, ◌+◌, ◌<◌, ◌≤◌, Bool, true, false, cond, Option, None, Some, List, [], ◌∷◌, ◌++◌, map, length, get_or, sym, subst, arith}
use Rattle.std.specs.Prelude.{slice_get, option_map, is_some}
use Rattle.std.specs.Option.{option_map_or}
use Rattle.std.specs.List.{All, AllByRecursion, filter, range_with_len}
use Rattle.std.proofs.lemmas.List.Elements.{All-from_recursion}
use Rattle.ice_base.specs.declared.number.TileAt.{TileAt}
use Rattle.ice_chip.specs.Database.{Parts}
use Rattle.ice_chip.specs.Lookups.{global_of}
use Rattle.ice_chip.specs.declared.rows.Pad.{Pad}
use Rattle.ice_cells.specs.declared.cell.Control.{Control}
use Rattle.ice_cells.specs.declared.cell.LogicCell.{LogicCell}
use Rattle.ice_cells.specs.declared.cluster.Cluster.{Cluster}
use Rattle.ice_cells.specs.declared.design.DesignPad.{DesignPad}
use Rattle.ice_cells.specs.declared.root.Root.{Root}
use Rattle.ice_cells.specs.declared.root.Root.TheVariants.{PadIn, CellOut, GlobalOut, CarryOut}
use Rattle.ice_cells.specs.Same.{same_root}
use Rattle.ice_place_defs.specs.Plan.{Plan, slot_in}
use Rattle.ice_place_defs.specs.Loads.{fed_roots}
use Rattle.ice_place_defs.specs.Length.{pad_root, cell_root}
use Rattle.ice_anneal_board.specs.declared.net.Node.{Node}
use Rattle.ice_anneal_board.specs.declared.net.Node.TheVariants.{Cluster as of_cluster, Fixed as of_tile}
use Rattle.ice_anneal_board.specs.declared.net.NetNodes.{NetNodes}
use Rattle.ice_anneal_board.specs.Length.{IsNode, IsNet}
use Rattle.ice_anneal_nets.specs.declared.read.Read.{Read}
use Rattle.ice_anneal_nets.specs.Reads.{read_at, pad_reads, pads_reads, feed_reads, global_reads, globals_reads, cell_reads, control_reads, slot_reads, slots_reads, cluster_reads, clusters_reads}
use Rattle.ice_anneal_nets.specs.Nodes.{reads_of, pad_node, holder, root_node, is_of, read_node, readers, behind, nodes_of, all_nodes, nodes_in}

-- ---- reads
Fit : ℕ → List Read → Type 0
Fit n [] = Unit {0}
Fit n (r ∷ reads) = IsNode n r.node × Fit n reads

fit_none : (n : ℕ) → Fit n []
unfolding Fit
fit_none n = tt

fit_one : (n : ℕ) (node : Node) (root : Option Root) → IsNode n node → Fit n (read_at node root)
unfolding Fit
fit_one n node None h = tt
fit_one n node (Some root) h = (h, tt)

fit_two : (n : ℕ) (a b : List Read) → Fit n a → Fit n b → Fit n (a ++ b)
unfolding Fit
fit_two n [] b h g = g
fit_two n (r ∷ a) b h g = (h.0, fit_two n a b h.1 g)

fit_pads : (n : ℕ) (places : List Pad) (pads : List DesignPad) → Fit n (pads_reads places pads)
fit_pads n [] pads = fit_none n
fit_pads n (p ∷ places) [] = fit_none n
fit_pads n (p ∷ places) (d ∷ pads) =
    fit_two n (pad_reads p d) (pads_reads places pads) (fit_two n (read_at (of_tile p.tile) d.drive) (read_at (of_tile p.tile) d.enable) (fit_one n (of_tile p.tile) d.drive tt) (fit_one n (of_tile p.tile) d.enable tt)) (fit_pads n places pads)

fit_global : (n : ℕ) (o : Option TileAt) (root : Option Root) → Fit n (option_map_or (feed_reads root) o [])
fit_global n None root = fit_none n
fit_global n (Some t) root = fit_one n (of_tile t) root tt

fit_globals : (n : ℕ) (parts : Parts) (ns : List ℕ) (roots : List (Option Root)) → Fit n (globals_reads parts ns roots)
fit_globals n parts [] roots = fit_none n
fit_globals n parts (m ∷ ns) [] = fit_none n
fit_globals n parts (m ∷ ns) (r ∷ roots) = fit_two n (global_reads parts m r) (globals_reads parts ns roots) (fit_global n (global_of parts m) r) (fit_globals n parts ns roots)

fit_cell : (n : ℕ) (node : Node) (cell : LogicCell) → IsNode n node → Fit n (cell_reads node cell)
fit_cell n node cell h =
    let s : ℕ → List Read = λ k. read_at node (get_or cell.ins k None) in
    let one : (k : ℕ) → Fit n (read_at node (get_or cell.ins k None)) = λ k. fit_one n node (get_or cell.ins k None) h in
    fit_two n ((s 0 ++ s 1) ++ s 2) (s 3) (fit_two n (s 0 ++ s 1) (s 2) (fit_two n (s 0) (s 1) (one 0) (one 1)) (one 2)) (one 3)

fit_control : (n : ℕ) (node : Node) (control : Option Control) → IsNode n node → Fit n (control_reads node control)
fit_control n node None h = fit_none n
fit_control n node (Some c) h =
    fit_two n (read_at node c.clock ++ read_at node c.enable) (read_at node c.reset) (fit_two n (read_at node c.clock) (read_at node c.enable) (fit_one n node c.clock h) (fit_one n node c.enable h)) (fit_one n node c.reset h)

fit_numbered : (n : ℕ) (node : Node) (o : Option LogicCell) → IsNode n node → Fit n (option_map_or (cell_reads node) o [])
fit_numbered n node None h = fit_none n
fit_numbered n node (Some cell) h = fit_cell n node cell h

fit_slot : (n : ℕ) (cells : List LogicCell) (node : Node) (slot : Option ℕ) → IsNode n node → Fit n (slot_reads cells node slot)
fit_slot n cells node None h = fit_none n
fit_slot n cells node (Some c) h = fit_numbered n node (slice_get cells c) h

fit_slots : (n : ℕ) (cells : List LogicCell) (node : Node) (slots : List (Option ℕ)) → IsNode n node → Fit n (slots_reads cells node slots)
fit_slots n cells node [] h = fit_none n
fit_slots n cells node (s ∷ slots) h = fit_two n (slot_reads cells node s) (slots_reads cells node slots) (fit_slot n cells node s h) (fit_slots n cells node slots h)

fit_clusters : (n : ℕ) (cells : List LogicCell) (k : ℕ) (clusters : List Cluster) → k + length clusters ≤ n → Fit n (clusters_reads cells k clusters)
fit_clusters n cells k [] le = fit_none n
fit_clusters n cells k (c ∷ clusters) le =
    let here : k < n = omega arith in
    fit_two n (cluster_reads cells k c) (clusters_reads cells (k + 1) clusters) (fit_two n (slots_reads cells (of_cluster k) c.cells) (control_reads (of_cluster k) c.control) (fit_slots n cells (of_cluster k) c.cells here) (fit_control n (of_cluster k) c.control here))
    (fit_clusters n cells (k + 1) clusters (omega arith))

fit_all : (parts : Parts) (plan : Plan) → Fit (length plan.clusters) (reads_of parts plan)
fit_all parts plan =
    let n = length plan.clusters in
    fit_two n (pads_reads plan.ports plan.design.pads ++ globals_reads parts plan.globals (fed_roots plan.direct plan.design.globals)) (clusters_reads plan.design.cells 0 plan.clusters)
    (fit_two n (pads_reads plan.ports plan.design.pads) (globals_reads parts plan.globals (fed_roots plan.direct plan.design.globals)) (fit_pads n plan.ports plan.design.pads) (fit_globals n parts plan.globals (fed_roots plan.direct plan.design.globals)))
    (fit_clusters n plan.design.cells 0 plan.clusters (omega arith))

-- ---- nodes
Fits : ℕ → List Node → Type 0
Fits n [] = Unit {0}
Fits n (x ∷ nodes) = IsNode n x × Fits n nodes

fits_readers : (n : ℕ) (root : Root) (all : List Read) → Fit n all → Fits n (readers all root)
unfolding Fit Fits
fits_readers n root [] h = tt
fits_readers n root (r ∷ all) h = by (same_root r.root root) (fits_readers n root all h.1)
  where
    by : (b : Bool) → Fits n (readers all root) → Fits n (map read_node (cond b (r ∷ filter (is_of root) all) (filter (is_of root) all)))
    by true rest = (h.0, rest)
    by false rest = rest

FitsSome : ℕ → Option Node → Type 0
FitsSome n None = Unit {0}
FitsSome n (Some node) = IsNode n node

fits_pad : (n : ℕ) (o : Option Pad) → FitsSome n (option_map pad_node o)
unfolding FitsSome
fits_pad n None = tt
fits_pad n (Some pad) = tt

fits_holder : (n k : ℕ) (clusters : List Cluster) (cell : ℕ) → k + length clusters ≤ n → FitsSome n (holder k clusters cell)
unfolding FitsSome
fits_holder n k [] cell le = tt
fits_holder n k (c ∷ clusters) cell le = by (is_some (slot_in c cell)) (fits_holder n (k + 1) clusters cell (omega arith))
  where
    by : (b : Bool) → FitsSome n (holder (k + 1) clusters cell) → FitsSome n (cond b (Some (of_cluster k)) (holder (k + 1) clusters cell))
    by true rest = (let lt : k < n = omega arith in lt)
    by false rest = rest

fits_root : (plan : Plan) (root : Root) → FitsSome (length plan.clusters) (root_node plan root)
unfolding FitsSome
fits_root plan (PadIn k) = fits_pad (length plan.clusters) (slice_get plan.ports k)
fits_root plan (CellOut c) = fits_holder (length plan.clusters) 0 plan.clusters c (omega arith)
fits_root plan (GlobalOut g) = tt
fits_root plan (CarryOut c) = tt

fits_nodes : (parts : Parts) (plan : Plan) (root : Root) → Fits (length plan.clusters) (nodes_of plan (reads_of parts plan) root)
unfolding Fits FitsSome
fits_nodes parts plan root = by (root_node plan root) (fits_root plan root)
  where
    by : (o : Option Node) → FitsSome (length plan.clusters) o → Fits (length plan.clusters) (option_map_or (behind (readers (reads_of parts plan) root)) o [])
    by None h = tt
    by (Some node) h = (h, fits_readers (length plan.clusters) root (reads_of parts plan) (fit_all parts plan))

-- ---- nets
AllFit : ℕ → List (List Node) → Type 0
AllFit n [] = Unit {0}
AllFit n (x ∷ xs) = Fits n x × AllFit n xs

all_join : (n : ℕ) (xs ys : List (List Node)) → AllFit n xs → AllFit n ys → AllFit n (xs ++ ys)
unfolding AllFit
all_join n [] ys h g = g
all_join n (x ∷ xs) ys h g = (h.0, all_join n xs ys h.1 g)

all_map : (n : ℕ) (f : ℕ → List Node) → ((k : ℕ) → Fits n (f k)) → (ks : List ℕ) → AllFit n (map f ks)
unfolding AllFit
all_map n f h [] = tt
all_map n f h (k ∷ ks) = (h k, all_map n f h ks)

all_nets : (parts : Parts) (plan : Plan) → AllFit (length plan.clusters) (all_nodes plan (reads_of parts plan))
all_nets parts plan =
    let n = length plan.clusters in
    let reads = reads_of parts plan in
    all_join n (map (λ k. nodes_of plan reads (pad_root k)) (range_with_len 0 (length plan.ports))) (map (λ c. nodes_of plan reads (cell_root c)) (range_with_len 0 (length plan.design.cells)))
    (all_map n (λ k. nodes_of plan reads (pad_root k)) (λ k. fits_nodes parts plan (pad_root k)) (range_with_len 0 (length plan.ports)))
    (all_map n (λ c. nodes_of plan reads (cell_root c)) (λ c. fits_nodes parts plan (cell_root c)) (range_with_len 0 (length plan.design.cells)))

nodes_recursion : (n : ℕ) (nodes : List Node) → Fits n nodes → AllByRecursion (IsNode n) nodes
unfolding Fits
nodes_recursion n [] h = tt
nodes_recursion n (x ∷ nodes) h = (h.0, nodes_recursion n nodes h.1)

nets_recursion : (n : ℕ) (nets : List NetNodes) → AllFit n (nodes_in nets) → AllByRecursion (IsNet n) nets
unfolding AllFit
nets_recursion n [] h = tt
nets_recursion n (x ∷ nets) h = (All-from_recursion (IsNode n) x.nodes.items (nodes_recursion n x.nodes.items h.0), nets_recursion n nets h.1)

pub nets_fit : (parts : Parts) (plan : Plan) (nets : List NetNodes) → nodes_in nets ≡ all_nodes plan (reads_of parts plan) → All (IsNet (length plan.clusters)) nets
nets_fit parts plan nets e = All-from_recursion (IsNet (length plan.clusters)) nets (nets_recursion (length plan.clusters) nets (subst (AllFit (length plan.clusters)) (sym e) (all_nets parts plan)))
