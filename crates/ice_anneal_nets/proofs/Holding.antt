-- The clusters that are noted are those of the definition.
use Rattle.std.proofs.Common.{◌≡◌, ℕ, suc, ◌+◌, ◌<◌, drop, get_or, add-one, drop-cons, Bool, true, false, cond, Option, None, Some, List, [], ◌∷◌, ◌++◌, length, replicate, refl, ap, ap₂, sym, ◌∙◌}
use Rattle.std.specs.Prelude.{option_map, is_some}
use Rattle.std.specs.Option.{option_or}
use Rattle.std.specs.List.{find, position_from}
use Rattle.std.proofs.lemmas.List.Folds.{find-append}
use Rattle.std.proofs.lemmas.Iterator.Adapters.{position_from-zero}
use Rattle.ice_cells.specs.declared.cluster.Cluster.{Cluster}
use Rattle.ice_cells.specs.Tables.{table, is_place, put_at, keep}
use Rattle.ice_cells.proofs.TableLaws.{scattered_kept, table_same}
use Rattle.ice_place_defs.specs.Plan.{slot_in}
use Rattle.ice_anneal_board.specs.declared.net.Node.{Node}
use Rattle.ice_anneal_board.specs.declared.net.Node.TheVariants.{Cluster as of_cluster}
use Rattle.ice_anneal_nets.specs.Holders.{Held, held, held_cell, held_node, noted, slots_held, clusters_held}
use Rattle.ice_anneal_nets.specs.Nodes.{holder}

noted_append : (nodes : List (Option Node)) (a b : List Held) → noted nodes (a ++ b) ≡ noted (noted nodes a) b
noted_append nodes [] b = refl
noted_append nodes (h ∷ a) b = noted_append (put_at (keep held_node) None nodes h h.cell) a b

-- the next cluster
pub noted_more : (clusters : List Cluster) (k : ℕ) (x : Cluster) (nodes new : List (Option Node)) → k < length clusters → x ≡ get_or clusters k x → new ≡ noted nodes (slots_held k x.cells)
    → noted new (clusters_held (k + 1) (drop (k + 1) clusters)) ≡ noted nodes (clusters_held k (drop k clusters))
noted_more clusters k x nodes new lt is e =
    let first : drop k clusters ≡ x ∷ drop (k + 1) clusters = drop-cons clusters k x lt ∙ ap (λ y. y ∷ drop (suc k) clusters) (sym is) ∙ ap (λ n. x ∷ drop n clusters) (sym (add-one k)) in
    ap (λ s. noted s (clusters_held (k + 1) (drop (k + 1) clusters))) e ∙ sym (noted_append nodes (slots_held k x.cells) (clusters_held (k + 1) (drop (k + 1) clusters)))
    ∙ ap (λ cs. noted nodes (clusters_held k cs)) (sym first)

-- ---- the cluster of one cell
abbrev holds : ℕ → Held → Bool
holds c h = is_place c h.cell

abbrev here : ℕ → Option ℕ → Option Node
here k o = cond (is_some o) (Some (of_cluster k)) None

in_slots : (c k i : ℕ) (cells : List (Option ℕ)) → option_map held_node (find (holds c) (slots_held k cells)) ≡ here k (position_from (is_place c) i cells)
in_slots c k i [] = refl
in_slots c k i (cell ∷ cells) = by (is_place c cell) (in_slots c k (i + 1) cells)
  where
    by : (b : Bool) → option_map held_node (find (holds c) (slots_held k cells)) ≡ here k (position_from (is_place c) (i + 1) cells)
        → option_map held_node (cond b (Some (held k cell)) (find (holds c) (slots_held k cells))) ≡ here k (cond b (Some i) (position_from (is_place c) (i + 1) cells))
    by true rest = refl
    by false rest = rest

mapped_or : (a b : Option Held) → option_map held_node (option_or a b) ≡ option_or (option_map held_node a) (option_map held_node b)
mapped_or None b = refl
mapped_or (Some h) b = refl

here_or : (k : ℕ) (o : Option ℕ) (rest : Option Node) → option_or (here k o) rest ≡ cond (is_some o) (Some (of_cluster k)) rest
here_or k None rest = refl
here_or k (Some i) rest = refl

in_clusters : (c k : ℕ) (clusters : List Cluster) → option_map held_node (find (holds c) (clusters_held k clusters)) ≡ holder k clusters c
in_clusters c k [] = refl
in_clusters c k (x ∷ clusters) =
    ap (option_map held_node) (find-append (holds c) (slots_held k x.cells) (clusters_held (k + 1) clusters))
    ∙ mapped_or (find (holds c) (slots_held k x.cells)) (find (holds c) (clusters_held (k + 1) clusters))
    ∙ ap₂ option_or (in_slots c k 0 x.cells ∙ ap (here k) (sym (position_from-zero (is_place c) x.cells))) (in_clusters c (k + 1) clusters)
    ∙ here_or k (slot_in x c) (holder (k + 1) clusters c)

-- ---- the clusters of all cells
pub holders_are : (clusters : List Cluster) (n : ℕ) (none nodes : List (Option Node)) → none ≡ replicate n None → nodes ≡ noted none (clusters_held 0 clusters) → nodes ≡ table (holder 0 clusters) n
holders_are clusters n none nodes e f =
    f ∙ ap (λ xs. noted xs (clusters_held 0 clusters)) e ∙ scattered_kept held_cell held_node n (clusters_held 0 clusters)
    ∙ table_same (λ c. option_map held_node (find (holds c) (clusters_held 0 clusters))) (holder 0 clusters) n (λ c lt. in_clusters c 0 clusters)
