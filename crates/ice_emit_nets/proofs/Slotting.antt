-- The slots that are noted are those of the definition.
use Rattle.std.proofs.Common.{◌≡◌, ℕ, suc, ◌+◌, ◌<◌, drop, get_or, add-one, drop-cons, Bool, true, false, cond, Option, None, Some, List, [], ◌∷◌, ◌++◌, length, replicate, refl, ap, sym, ◌∙◌}
use Rattle.std.specs.Prelude.{option_map, slice_get}
use Rattle.std.specs.Option.{option_or, option_map_or}
use Rattle.std.specs.List.{find, position_from}
use Rattle.std.proofs.lemmas.List.Folds.{find-append}
use Rattle.std.proofs.lemmas.Iterator.Adapters.{position_from-zero}
use Rattle.ice_base.specs.declared.number.TileAt.{TileAt}
use Rattle.ice_cells.specs.declared.cluster.Cluster.{Cluster}
use Rattle.ice_cells.specs.Tables.{table, is_place, put_at, keep}
use Rattle.ice_cells.proofs.TableLaws.{scattered_kept, table_same}
use Rattle.ice_place_defs.specs.Plan.{Plan, Slot, slot_in, in_tile, first_slot, slot_among, slot_of}
use Rattle.ice_emit_nets.specs.Sides.{sides}
use Rattle.ice_emit_nets.specs.Slots.{Held, held, held_cell, held_slot, noted, tile_slots, cluster_slots}
use Rattle.ice_emit_nets.proofs.Siding.{sides_are}

pub noted_append : (slots : List (Option Slot)) (a b : List Held) → noted slots (a ++ b) ≡ noted (noted slots a) b
noted_append slots [] b = refl
noted_append slots (h ∷ a) b = noted_append (put_at (keep held_slot) None slots h h.cell) a b

-- the next cluster
pub noted_more : (tiles : List TileAt) (clusters : List Cluster) (k : ℕ) (x : Cluster) (slots new : List (Option Slot)) → k < length clusters → x ≡ get_or clusters k x
    → new ≡ noted slots (option_map_or (cluster_slots x) (slice_get tiles k) []) → noted new (sides cluster_slots tiles (k + 1) (drop (k + 1) clusters)) ≡ noted slots (sides cluster_slots tiles k (drop k clusters))
noted_more tiles clusters k x slots new lt is e =
    let here : List Held = option_map_or (cluster_slots x) (slice_get tiles k) [] in
    let first : drop k clusters ≡ x ∷ drop (k + 1) clusters = drop-cons clusters k x lt ∙ ap (λ y. y ∷ drop (suc k) clusters) (sym is) ∙ ap (λ n. x ∷ drop n clusters) (sym (add-one k)) in
    ap (λ s. noted s (sides cluster_slots tiles (k + 1) (drop (k + 1) clusters))) e ∙ sym (noted_append slots here (sides cluster_slots tiles (k + 1) (drop (k + 1) clusters)))
    ∙ ap (λ cs. noted slots (sides cluster_slots tiles k cs)) (sym first)

-- ---- the slot of one cell
abbrev holds : ℕ → Held → Bool
holds c h = is_place c h.cell

in_slots : (c : ℕ) (t : TileAt) (i : ℕ) (cells : List (Option ℕ)) → option_map held_slot (find (holds c) (tile_slots t i cells)) ≡ option_map (in_tile t) (position_from (is_place c) i cells)
in_slots c t i [] = refl
in_slots c t i (cell ∷ cells) = by (is_place c cell) (in_slots c t (i + 1) cells)
  where
    by : (b : Bool) → option_map held_slot (find (holds c) (tile_slots t (i + 1) cells)) ≡ option_map (in_tile t) (position_from (is_place c) (i + 1) cells)
        → option_map held_slot (cond b (Some (held t i cell)) (find (holds c) (tile_slots t (i + 1) cells))) ≡ option_map (in_tile t) (cond b (Some i) (position_from (is_place c) (i + 1) cells))
    by true rest = refl
    by false rest = rest

in_cluster : (c : ℕ) (cluster : Cluster) (t : TileAt) → option_map held_slot (find (holds c) (cluster_slots cluster t)) ≡ option_map (in_tile t) (slot_in cluster c)
in_cluster c cluster t = in_slots c t 0 cluster.cells ∙ ap (option_map (in_tile t)) (sym (position_from-zero (is_place c) cluster.cells))

-- all slots of clusters in these tiles
abbrev both : List TileAt → List Cluster → List Held
both [] clusters = []
both (t ∷ tiles) [] = []
both (t ∷ tiles) (cluster ∷ clusters) = cluster_slots cluster t ++ both tiles clusters

both_are : (tiles : List TileAt) (clusters : List Cluster) → sides cluster_slots tiles 0 clusters ≡ both tiles clusters
both_are = sides_are cluster_slots both (λ clusters. refl) right (λ t tiles cluster clusters. refl)
  where
    right : (tiles : List TileAt) → both tiles [] ≡ []
    right [] = refl
    right (t ∷ tiles) = refl

first_found : (a b : Option Held) (one rest : Option Slot) → option_map held_slot a ≡ one → option_map held_slot b ≡ rest → option_map held_slot (option_or a b) ≡ first_slot one rest
first_found None b one rest e f = f ∙ ap (λ o. first_slot o rest) e
first_found (Some h) b one rest e f = ap (λ o. first_slot o rest) e

in_clusters : (c : ℕ) (tiles : List TileAt) (clusters : List Cluster) → option_map held_slot (find (holds c) (both tiles clusters)) ≡ slot_among clusters tiles c
in_clusters c [] [] = refl
in_clusters c [] (cluster ∷ clusters) = refl
in_clusters c (t ∷ tiles) [] = refl
in_clusters c (t ∷ tiles) (cluster ∷ clusters) =
    ap (option_map held_slot) (find-append (holds c) (cluster_slots cluster t) (both tiles clusters))
    ∙ first_found (find (holds c) (cluster_slots cluster t)) (find (holds c) (both tiles clusters)) (option_map (in_tile t) (slot_in cluster c)) (slot_among clusters tiles c) (in_cluster c cluster t)
    (in_clusters c tiles clusters)

-- ---- the slots of all cells
pub slots_are : (plan : Plan) (n : ℕ) (none slots : List (Option Slot)) → none ≡ replicate n None → slots ≡ noted none (sides cluster_slots plan.at 0 plan.clusters) → slots ≡ table (slot_of plan) n
slots_are plan n none slots e f =
    f ∙ ap (λ xs. noted xs (sides cluster_slots plan.at 0 plan.clusters)) e ∙ ap (noted (replicate n None)) (both_are plan.at plan.clusters)
    ∙ scattered_kept held_cell held_slot n (both plan.at plan.clusters)
    ∙ table_same (λ c. option_map held_slot (find (holds c) (both plan.at plan.clusters))) (slot_of plan) n (λ c lt. in_clusters c plan.at plan.clusters)
