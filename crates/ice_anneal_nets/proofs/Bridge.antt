-- Nets by nodes are as long as those of the placed design.
use Rattle.std.proofs.Common.{◌≡◌, ℕ, suc, ◌+◌, ◌<◌, min, max, Bool, true, false, cond, Option, None, Some, List, [], ◌∷◌, ◌++◌, map, length, get_or, sum, refl, ap, ap₂, sym, ◌∙◌, arith}
use Rattle.std.specs.Prelude.{slice_get, option_map, is_some}
use Rattle.std.specs.Option.{option_map_or}
use Rattle.std.specs.List.{fold, filter, range_with_len}
use Rattle.std.proofs.lemmas.List.{map-append}
use Rattle.std.proofs.lemmas.List.Sums.{sum_by-append}
use Rattle.ice_base.specs.declared.number.TileAt.{TileAt}
use Rattle.ice_chip.specs.Database.{Parts}
use Rattle.ice_chip.specs.Lookups.{global_of}
use Rattle.ice_chip.specs.declared.rows.Pad.{Pad}
use Rattle.ice_cells.specs.declared.cell.Control.{Control}
use Rattle.ice_cells.specs.declared.cell.LogicCell.{LogicCell}
use Rattle.ice_cells.specs.declared.cluster.Cluster.{Cluster}
use Rattle.ice_cells.specs.declared.design.DesignPad.{DesignPad}
use Rattle.ice_cells.specs.declared.root.Root.{Root}
use Rattle.ice_cells.specs.declared.root.Root.TheVariants.{PadIn, CellOut, GlobalOut, CarryOut}
use Rattle.ice_cells.specs.Same.{same_root}
use Rattle.ice_place_defs.specs.Plan.{Plan, slot_in, in_tile, first_slot, slot_among, slot_tile, pad_tile, root_tile}
use Rattle.ice_place_defs.specs.Loads.{Pin, Input, Clock, Enable, SetReset, Feed, Drive, DriveEnable, Load, load_at, pad_loads, pads_loads, feed_load, fed_roots, global_loads, globals_loads, cell_loads, control_loads, slot_gives, slots_give, clusters_give, loads}
use Rattle.ice_place_defs.specs.Length.{box_at, with_tile, half_perimeter, is_of_root, load_tile, net_length as length_by, length_of, pad_root, cell_root}
use Rattle.ice_anneal_board.specs.declared.net.Node.{Node}
use Rattle.ice_anneal_board.specs.declared.net.Node.TheVariants.{Cluster as of_cluster, Fixed as of_tile}
use Rattle.ice_anneal_board.specs.declared.net.NetNodes.{NetNodes}
use Rattle.ice_anneal_board.specs.Length.{origin, tile_of, net_length, wire_length}
use Rattle.ice_anneal_nets.specs.declared.read.Read.{Read}
use Rattle.ice_anneal_nets.specs.Reads.{read_at, pad_reads, pads_reads, feed_reads, global_reads, globals_reads, cell_reads, control_reads, slot_reads, slots_reads, cluster_reads, clusters_reads}
use Rattle.ice_anneal_nets.specs.Nodes.{reads_of, pad_node, holder, root_node, is_of, read_node, readers, behind, nodes_of, all_nodes, nodes_in}

-- ---- a root that is read in a tile
abbrev Spot : Type 0
Spot = Root × TileAt

load_spot : Load → Spot
load_spot load = (load.root, load.tile)

read_spot : List TileAt → Read → Spot
read_spot at read = (read.root, tile_of at read.node)

-- the loads stand where the reads do
Alike : List TileAt → List Load → List Read → Type 0
Alike at ls rs = map load_spot ls ≡ map (read_spot at) rs

none_alike : (at : List TileAt) → Alike at [] []
unfolding Alike
none_alike at = refl

one_alike : (at : List TileAt) (node : Node) (t : TileAt) (pin : Pin) (root : Option Root) → tile_of at node ≡ t → Alike at (load_at t pin root) (read_at node root)
unfolding Alike load_spot read_spot
one_alike at node t pin None e = refl
one_alike at node t pin (Some root) e = ap (λ (u : TileAt). (root, u) ∷ []) (sym e)

two_alike : (at : List TileAt) (a b : List Load) (c d : List Read) → Alike at a c → Alike at b d → Alike at (a ++ b) (c ++ d)
unfolding Alike
two_alike at a b c d e f = map-append load_spot a b ∙ ap₂ (λ x y. x ++ y) e f ∙ sym (map-append (read_spot at) c d)

pad_alike : (at : List TileAt) (place : Pad) (pad : DesignPad) → Alike at (pad_loads place pad) (pad_reads place pad)
pad_alike at place pad =
    two_alike at (load_at place.tile (Drive place.pio) pad.drive) (load_at place.tile (DriveEnable place.pio) pad.enable) (read_at (of_tile place.tile) pad.drive) (read_at (of_tile place.tile) pad.enable)
    (one_alike at (of_tile place.tile) place.tile (Drive place.pio) pad.drive refl) (one_alike at (of_tile place.tile) place.tile (DriveEnable place.pio) pad.enable refl)

pads_alike : (at : List TileAt) (places : List Pad) (pads : List DesignPad) → Alike at (pads_loads places pads) (pads_reads places pads)
pads_alike at [] pads = none_alike at
pads_alike at (p ∷ places) [] = none_alike at
pads_alike at (p ∷ places) (d ∷ pads) = two_alike at (pad_loads p d) (pads_loads places pads) (pad_reads p d) (pads_reads places pads) (pad_alike at p d) (pads_alike at places pads)

global_alike : (at : List TileAt) (parts : Parts) (n : ℕ) (root : Option Root) → Alike at (global_loads parts n root) (global_reads parts n root)
global_alike at parts n root = by (global_of parts n)
  where
    by : (o : Option TileAt) → Alike at (option_map_or (feed_load root) o []) (option_map_or (feed_reads root) o [])
    by None = none_alike at
    by (Some t) = one_alike at (of_tile t) t Feed root refl

globals_alike : (at : List TileAt) (parts : Parts) (ns : List ℕ) (roots : List (Option Root)) → Alike at (globals_loads parts ns roots) (globals_reads parts ns roots)
globals_alike at parts [] roots = none_alike at
globals_alike at parts (n ∷ ns) [] = none_alike at
globals_alike at parts (n ∷ ns) (r ∷ roots) = two_alike at (global_loads parts n r) (globals_loads parts ns roots) (global_reads parts n r) (globals_reads parts ns roots) (global_alike at parts n r) (globals_alike at parts ns roots)

cell_alike : (at : List TileAt) (node : Node) (t : TileAt) (i : ℕ) (cell : LogicCell) → tile_of at node ≡ t → Alike at (cell_loads t i cell) (cell_reads node cell)
cell_alike at node t i cell e =
    let r : ℕ → Option Root = λ k. get_or cell.ins k None in
    let l : ℕ → List Load = λ k. load_at t (Input i k) (r k) in
    let s : ℕ → List Read = λ k. read_at node (r k) in
    let one : (k : ℕ) → Alike at (load_at t (Input i k) (get_or cell.ins k None)) (read_at node (get_or cell.ins k None)) = λ k. one_alike at node t (Input i k) (get_or cell.ins k None) e in
    two_alike at ((l 0 ++ l 1) ++ l 2) (l 3) ((s 0 ++ s 1) ++ s 2) (s 3) (two_alike at (l 0 ++ l 1) (l 2) (s 0 ++ s 1) (s 2) (two_alike at (l 0) (l 1) (s 0) (s 1) (one 0) (one 1)) (one 2)) (one 3)

control_alike : (at : List TileAt) (node : Node) (t : TileAt) (control : Option Control) → tile_of at node ≡ t → Alike at (control_loads t control) (control_reads node control)
control_alike at node t None e = none_alike at
control_alike at node t (Some c) e =
    two_alike at (load_at t Clock c.clock ++ load_at t Enable c.enable) (load_at t SetReset c.reset) (read_at node c.clock ++ read_at node c.enable) (read_at node c.reset)
    (two_alike at (load_at t Clock c.clock) (load_at t Enable c.enable) (read_at node c.clock) (read_at node c.enable) (one_alike at node t Clock c.clock e) (one_alike at node t Enable c.enable e))
    (one_alike at node t SetReset c.reset e)

slot_alike : (at : List TileAt) (cells : List LogicCell) (node : Node) (t : TileAt) (i : ℕ) (slot : Option ℕ) → tile_of at node ≡ t → Alike at (slot_gives cell_loads cells t i slot) (slot_reads cells node slot)
slot_alike at cells node t i None e = none_alike at
slot_alike at cells node t i (Some c) e = by (slice_get cells c)
  where
    by : (o : Option LogicCell) → Alike at (option_map_or (cell_loads t i) o []) (option_map_or (cell_reads node) o [])
    by None = none_alike at
    by (Some cell) = cell_alike at node t i cell e

slots_alike : (at : List TileAt) (cells : List LogicCell) (node : Node) (t : TileAt) (i : ℕ) (slots : List (Option ℕ)) → tile_of at node ≡ t → Alike at (slots_give cell_loads cells t i slots) (slots_reads cells node slots)
slots_alike at cells node t i [] e = none_alike at
slots_alike at cells node t i (s ∷ slots) e =
    two_alike at (slot_gives cell_loads cells t i s) (slots_give cell_loads cells t (i + 1) slots) (slot_reads cells node s) (slots_reads cells node slots) (slot_alike at cells node t i s e) (slots_alike at cells node t (i + 1) slots e)

-- the tiles of a list are those of the whole list from place k on
abbrev IsPart : List TileAt → ℕ → List TileAt → Type 0
IsPart whole k at = (j : ℕ) → j < length at → get_or whole (k + j) origin ≡ get_or at j origin

part_first : (whole : List TileAt) (k : ℕ) (t : TileAt) (at : List TileAt) → IsPart whole k (t ∷ at) → get_or whole k origin ≡ t
part_first whole k t at h = (let z : k ≡ k + 0 = omega arith in ap (λ j. get_or whole j origin) z) ∙ h 0 (let lt : 0 < suc (length at) = omega arith in lt)

part_rest : (whole : List TileAt) (k : ℕ) (t : TileAt) (at : List TileAt) → IsPart whole k (t ∷ at) → IsPart whole (k + 1) at
part_rest whole k t at h = λ j lt. (let z : (k + 1) + j ≡ k + suc j = omega arith in ap (λ i. get_or whole i origin) z) ∙ h (suc j) (omega arith)

clusters_alike : (whole at : List TileAt) (cells : List LogicCell) (k : ℕ) (clusters : List Cluster) → IsPart whole k at → length at ≡ length clusters
    → Alike whole (clusters_give cell_loads control_loads cells at clusters) (clusters_reads cells k clusters)
clusters_alike whole [] cells k [] h e = none_alike whole
clusters_alike whole [] cells k (c ∷ clusters) h e = absurd (omega arith)
clusters_alike whole (t ∷ at) cells k [] h e = absurd (omega arith)
clusters_alike whole (t ∷ at) cells k (c ∷ clusters) h e =
    let here = part_first whole k t at h in
    two_alike whole (slots_give cell_loads cells t 0 c.cells ++ control_loads t c.control) (clusters_give cell_loads control_loads cells at clusters) (cluster_reads cells k c) (clusters_reads cells (k + 1) clusters)
    (two_alike whole (slots_give cell_loads cells t 0 c.cells) (control_loads t c.control) (slots_reads cells (of_cluster k) c.cells) (control_reads (of_cluster k) c.control) (slots_alike whole cells (of_cluster k) t 0 c.cells here)
    (control_alike whole (of_cluster k) t c.control here))
    (clusters_alike whole at cells (k + 1) clusters (part_rest whole k t at h) (omega arith))

whole_part : (at : List TileAt) → IsPart at 0 at
whole_part at = λ j lt. (let z : 0 + j ≡ j = omega arith in ap (λ i. get_or at i origin) z)

all_alike : (parts : Parts) (plan : Plan) → length plan.at ≡ length plan.clusters → Alike plan.at (loads parts plan) (reads_of parts plan)
all_alike parts plan e =
    let pads = pads_loads plan.ports plan.design.pads in
    let fed = fed_roots plan.direct plan.design.globals in
    let globals = globals_loads parts plan.globals fed in
    let clusters = clusters_give cell_loads control_loads plan.design.cells plan.at plan.clusters in
    let pads' = pads_reads plan.ports plan.design.pads in
    let globals' = globals_reads parts plan.globals fed in
    let clusters' = clusters_reads plan.design.cells 0 plan.clusters in
    two_alike plan.at (pads ++ globals) clusters (pads' ++ globals') clusters' (two_alike plan.at pads globals pads' globals' (pads_alike plan.at plan.ports plan.design.pads) (globals_alike plan.at parts plan.globals fed))
    (clusters_alike plan.at plan.at plan.design.cells 0 plan.clusters (whole_part plan.at) e)

-- ---- the tiles that read a root
tiles_for : Root → List Spot → List TileAt
tiles_for root [] = []
tiles_for root (s ∷ spots) = cond (same_root s.0 root) (s.1 ∷ tiles_for root spots) (tiles_for root spots)

tiles_loads : (root : Root) (all : List Load) → tiles_for root (map load_spot all) ≡ map load_tile (filter (is_of_root root) all)
unfolding tiles_for load_spot
tiles_loads root [] = refl
tiles_loads root (l ∷ all) = by (same_root l.root root) (tiles_loads root all)
  where
    by : (b : Bool) → tiles_for root (map load_spot all) ≡ map load_tile (filter (is_of_root root) all)
        → cond b (l.tile ∷ tiles_for root (map load_spot all)) (tiles_for root (map load_spot all)) ≡ map load_tile (cond b (l ∷ filter (is_of_root root) all) (filter (is_of_root root) all))
    by true e = ap (λ xs. l.tile ∷ xs) e
    by false e = e

tiles_reads : (at : List TileAt) (root : Root) (all : List Read) → tiles_for root (map (read_spot at) all) ≡ map (tile_of at) (readers all root)
unfolding tiles_for read_spot
tiles_reads at root [] = refl
tiles_reads at root (r ∷ all) = by (same_root r.root root) (tiles_reads at root all)
  where
    by : (b : Bool) → tiles_for root (map (read_spot at) all) ≡ map (tile_of at) (readers all root)
        → cond b (tile_of at r.node ∷ tiles_for root (map (read_spot at) all)) (tiles_for root (map (read_spot at) all)) ≡ map (tile_of at) (map read_node (cond b (r ∷ filter (is_of root) all) (filter (is_of root) all)))
    by true e = ap (λ xs. tile_of at r.node ∷ xs) e
    by false e = e

same_tiles : (parts : Parts) (plan : Plan) (root : Root) → length plan.at ≡ length plan.clusters → map load_tile (filter (is_of_root root) (loads parts plan)) ≡ map (tile_of plan.at) (readers (reads_of parts plan) root)
unfolding Alike
same_tiles parts plan root e = sym (tiles_loads root (loads parts plan)) ∙ ap (tiles_for root) (all_alike parts plan e) ∙ tiles_reads plan.at root (reads_of parts plan)

-- ---- tiles of roots
holder_tile : (whole at : List TileAt) (k : ℕ) (clusters : List Cluster) (cell : ℕ) → IsPart whole k at → length at ≡ length clusters → option_map slot_tile (slot_among clusters at cell) ≡ option_map (tile_of whole) (holder k clusters cell)
holder_tile whole [] k [] cell h e = refl
holder_tile whole [] k (c ∷ clusters) cell h e = absurd (omega arith)
holder_tile whole (t ∷ at) k [] cell h e = refl
holder_tile whole (t ∷ at) k (c ∷ clusters) cell h e = by (slot_in c cell) (holder_tile whole at (k + 1) clusters cell (part_rest whole k t at h) (omega arith))
  where
    by : (o : Option ℕ) → option_map slot_tile (slot_among clusters at cell) ≡ option_map (tile_of whole) (holder (k + 1) clusters cell)
        → option_map slot_tile (first_slot (option_map (in_tile t) o) (slot_among clusters at cell)) ≡ option_map (tile_of whole) (cond (is_some o) (Some (of_cluster k)) (holder (k + 1) clusters cell))
    by None rest = rest
    by (Some i) rest = ap Some (sym (part_first whole k t at h))

pad_spot : (at : List TileAt) (o : Option Pad) → option_map pad_tile o ≡ option_map (tile_of at) (option_map pad_node o)
pad_spot at None = refl
pad_spot at (Some pad) = refl

root_spot : (plan : Plan) (root : Root) → length plan.at ≡ length plan.clusters → root_tile plan root ≡ option_map (tile_of plan.at) (root_node plan root)
root_spot plan (PadIn k) e = pad_spot plan.at (slice_get plan.ports k)
root_spot plan (CellOut c) e = holder_tile plan.at plan.at 0 plan.clusters c (whole_part plan.at) e
root_spot plan (GlobalOut g) e = refl
root_spot plan (CarryOut c) e = refl

-- ---- lengths
min_self : (n : ℕ) → min n n ≡ n
min_self n = omega arith

max_self : (n : ℕ) → max n n ≡ n
max_self n = omega arith

first_twice : (t : TileAt) → with_tile (box_at t) t ≡ box_at t
first_twice t =
    let left = min_self t.x in
    let right = max_self t.x in
    let low = min_self t.y in
    let high = max_self t.y in
    λ i. record { left = left i; right = right i; low = low i; high = high i }

net_same : (parts : Parts) (plan : Plan) (root : Root) → length plan.at ≡ length plan.clusters → net_length plan.at (nodes_of plan (reads_of parts plan) root) ≡ length_by plan (loads parts plan) root
net_same parts plan root e = by (root_node plan root) (root_spot plan root e)
  where
    by : (o : Option Node) → root_tile plan root ≡ option_map (tile_of plan.at) o
        → net_length plan.at (option_map_or (behind (readers (reads_of parts plan) root)) o []) ≡ option_map_or (λ (t : TileAt). half_perimeter (fold with_tile (box_at t) (map load_tile (filter (is_of_root root) (loads parts plan))))) (root_tile plan root) 0
    by None is = sym (ap (λ (o : Option TileAt). option_map_or (λ (t : TileAt). half_perimeter (fold with_tile (box_at t) (map load_tile (filter (is_of_root root) (loads parts plan))))) o 0) is)
    by (Some node) is =
        ap (λ b. half_perimeter (fold with_tile b (map (tile_of plan.at) (readers (reads_of parts plan) root)))) (first_twice (tile_of plan.at node))
        ∙ ap (λ tiles. half_perimeter (fold with_tile (box_at (tile_of plan.at node)) tiles)) (sym (same_tiles parts plan root e))
        ∙ sym (ap (λ (o : Option TileAt). option_map_or (λ (t : TileAt). half_perimeter (fold with_tile (box_at t) (map load_tile (filter (is_of_root root) (loads parts plan))))) o 0) is)

map_nodes : (at : List TileAt) (nets : List NetNodes) → map (λ (net : NetNodes). net_length at net.nodes.items) nets ≡ map (net_length at) (nodes_in nets)
map_nodes at [] = refl
map_nodes at (n ∷ nets) = ap (λ xs. net_length at n.nodes.items ∷ xs) (map_nodes at nets)

map_each : (at : List TileAt) (f : ℕ → List Node) (g : ℕ → ℕ) → ((k : ℕ) → net_length at (f k) ≡ g k) → (ks : List ℕ) → map (net_length at) (map f ks) ≡ map g ks
map_each at f g same [] = refl
map_each at f g same (k ∷ ks) = ap₂ (λ x xs. x ∷ xs) (same k) (map_each at f g same ks)

pub same_length : (parts : Parts) (plan : Plan) (nets : List NetNodes) → length plan.at ≡ length plan.clusters → nodes_in nets ≡ all_nodes plan (reads_of parts plan) → wire_length nets plan.at ≡ length_of parts plan
same_length parts plan nets e is =
    let reads = reads_of parts plan in
    let pads = map (λ k. nodes_of plan reads (pad_root k)) (range_with_len 0 (length plan.ports)) in
    let cells = map (λ c. nodes_of plan reads (cell_root c)) (range_with_len 0 (length plan.design.cells)) in
    let measure : List (List Node) → List ℕ = map (net_length plan.at) in
    ap sum (map_nodes plan.at nets ∙ ap measure is ∙ map-append (net_length plan.at) pads cells)
    ∙ sum_by-append (λ (x : ℕ). x) (measure pads) (measure cells)
    ∙ ap₂ (λ a b. sum a + sum b) (map_each plan.at (λ k. nodes_of plan reads (pad_root k)) (λ k. length_by plan (loads parts plan) (pad_root k)) (λ k. net_same parts plan (pad_root k) e) (range_with_len 0 (length plan.ports)))
    (map_each plan.at (λ c. nodes_of plan reads (cell_root c)) (λ c. length_by plan (loads parts plan) (cell_root c)) (λ c. net_same parts plan (cell_root c) e) (range_with_len 0 (length plan.design.cells)))
