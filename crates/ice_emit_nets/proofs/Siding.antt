-- Two lists side by side, of which the second is gone through.
use Rattle.std.proofs.Common.{◌≡◌, ℕ, ◌+◌, ◌<◌, ◌≤◌, length, drop, get_or, drop-cons, add-one, suc, Option, List, [], ◌∷◌, ◌++◌, map, refl, ap, sym, ◌∙◌, arith}
use Rattle.std.specs.Prelude.{slice_get}
use Rattle.std.specs.Option.{option_map_or}
use Rattle.std.proofs.Math.ListN.{drop_of_length-le}
use Rattle.std.proofs.lemmas.List.{map-append, append_assoc, append-nil}
use Rattle.ice_base.specs.declared.number.TileAt.{TileAt}
use Rattle.ice_chip.specs.Database.{Parts}
use Rattle.ice_chip.specs.declared.rows.Pad.{Pad}
use Rattle.ice_cells.specs.declared.cell.LogicCell.{LogicCell}
use Rattle.ice_cells.specs.declared.cluster.Cluster.{Cluster}
use Rattle.ice_cells.specs.declared.design.DesignPad.{DesignPad}
use Rattle.ice_cells.specs.declared.root.Root.{Root}
use Rattle.ice_place_defs.specs.Loads.{pad_loads, pads_loads, global_loads, globals_loads, clusters_give}
use Rattle.ice_emit_nets.specs.Ends.{End, load_end, cell_ends, control_ends}
use Rattle.ice_emit_nets.specs.Given.{pad_ends, global_ends, cluster_ends}
use Rattle.ice_emit_nets.specs.Sides.{sides}

module _ {A B C : Type 0} (gives : B → A → List C) where
  sides_next : (a : A) (as' : List A) (k : ℕ) (bs : List B) → sides gives (a ∷ as') (suc k) bs ≡ sides gives as' k bs
  sides_next a as' k [] = refl
  sides_next a as' k (b ∷ bs) =
      let more : suc k + 1 ≡ suc (k + 1) = omega arith in
      ap (λ xs. option_map_or (gives b) (slice_get as' k) [] ++ xs) (ap (λ n. sides gives (a ∷ as') n bs) more ∙ sides_next a as' (k + 1) bs)

  sides_none : (k : ℕ) (bs : List B) → sides gives [] k bs ≡ []
  sides_none k [] = refl
  sides_none k (b ∷ bs) = sides_none (k + 1) bs

  -- what goes through both lists gives the same
  pub sides_are : (both : List A → List B → List C) → ((bs : List B) → both [] bs ≡ []) → ((as' : List A) → both as' [] ≡ [])
      → ((a : A) (as' : List A) (b : B) (bs : List B) → both (a ∷ as') (b ∷ bs) ≡ gives b a ++ both as' bs) → (as' : List A) (bs : List B) → sides gives as' 0 bs ≡ both as' bs
  sides_are both left right step [] bs = sides_none 0 bs ∙ sym (left bs)
  sides_are both left right step (a ∷ as') [] = sym (right (a ∷ as'))
  sides_are both left right step (a ∷ as') (b ∷ bs) =
      ap (λ xs. gives b a ++ xs) (sides_next a as' 0 bs ∙ sides_are both left right step as' bs) ∙ sym (step a as' b bs)

-- ---- loops
pub sides_step : {A B C : Type 0} (gives : B → A → List C) (as' : List A) (bs : List B) (k : ℕ) (b d : B) (o : Option A) (old new whole : List C) → k < length bs → b ≡ get_or bs k d → o ≡ slice_get as' k
    → new ≡ old ++ option_map_or (gives b) o [] → old ++ sides gives as' k (drop k bs) ≡ whole → new ++ sides gives as' (k + 1) (drop (k + 1) bs) ≡ whole
sides_step {A} {B} {C} gives as' bs k b d o old new whole lt is at e inv =
    let rest : List C = sides gives as' (k + 1) (drop (k + 1) bs) in
    let first : drop k bs ≡ b ∷ drop (k + 1) bs = drop-cons bs k d lt ∙ ap (λ y. y ∷ drop (suc k) bs) (sym is) ∙ ap (λ n. b ∷ drop n bs) (sym (add-one k)) in
    ap (λ xs. xs ++ rest) e ∙ append_assoc old (option_map_or (gives b) o []) rest ∙ ap (λ p. old ++ (option_map_or (gives b) p [] ++ rest)) at
    ∙ ap (λ cs. old ++ sides gives as' k cs) (sym first) ∙ inv

pub sides_end : {A B C : Type 0} (gives : B → A → List C) (as' : List A) (bs : List B) (k : ℕ) (new whole : List C) → length bs ≤ k → new ++ sides gives as' k (drop k bs) ≡ whole → new ≡ whole
sides_end gives as' bs k new whole le inv = sym (append-nil new) ∙ ap (λ cs. new ++ sides gives as' k cs) (sym (drop_of_length-le bs {i = k} le)) ∙ inv

-- ---- pads
pads_sides : (parts : Parts) (ports : List Pad) (pads : List DesignPad) → sides (pad_ends parts) ports 0 pads ≡ map (load_end parts) (pads_loads ports pads)
pads_sides parts = sides_are (pad_ends parts) (λ ports pads. map (load_end parts) (pads_loads ports pads)) (λ pads. refl) right step
  where
    right : (ports : List Pad) → map (load_end parts) (pads_loads ports []) ≡ []
    right [] = refl
    right (p ∷ ports) = refl

    step : (p : Pad) (ports : List Pad) (pad : DesignPad) (pads : List DesignPad)
        → map (load_end parts) (pads_loads (p ∷ ports) (pad ∷ pads)) ≡ pad_ends parts pad p ++ map (load_end parts) (pads_loads ports pads)
    step p ports pad pads = map-append (load_end parts) (pad_loads p pad) (pads_loads ports pads)

pub pads_are : (parts : Parts) (ports : List Pad) (pads : List DesignPad) (old new : List End) → new ≡ old ++ sides (pad_ends parts) ports 0 pads → new ≡ old ++ map (load_end parts) (pads_loads ports pads)
pads_are parts ports pads old new e = e ∙ ap (λ xs. old ++ xs) (pads_sides parts ports pads)

-- ---- global buffers
globals_sides : (parts : Parts) (numbers : List ℕ) (roots : List (Option Root)) → sides (global_ends parts) numbers 0 roots ≡ map (load_end parts) (globals_loads parts numbers roots)
globals_sides parts = sides_are (global_ends parts) (λ numbers roots. map (load_end parts) (globals_loads parts numbers roots)) (λ roots. refl) right step
  where
    right : (numbers : List ℕ) → map (load_end parts) (globals_loads parts numbers []) ≡ []
    right [] = refl
    right (n ∷ numbers) = refl

    step : (n : ℕ) (numbers : List ℕ) (root : Option Root) (roots : List (Option Root))
        → map (load_end parts) (globals_loads parts (n ∷ numbers) (root ∷ roots)) ≡ global_ends parts root n ++ map (load_end parts) (globals_loads parts numbers roots)
    step n numbers root roots = map-append (load_end parts) (global_loads parts n root) (globals_loads parts numbers roots)

pub globals_are : (parts : Parts) (numbers : List ℕ) (roots : List (Option Root)) (old new : List End) → new ≡ old ++ sides (global_ends parts) numbers 0 roots
    → new ≡ old ++ map (load_end parts) (globals_loads parts numbers roots)
globals_are parts numbers roots old new e = e ∙ ap (λ xs. old ++ xs) (globals_sides parts numbers roots)

-- ---- clusters
clusters_sides : (parts : Parts) (cells : List LogicCell) (tiles : List TileAt) (clusters : List Cluster)
    → sides (cluster_ends parts cells) tiles 0 clusters ≡ clusters_give (cell_ends parts) (control_ends parts) cells tiles clusters
clusters_sides parts cells = sides_are (cluster_ends parts cells) (clusters_give (cell_ends parts) (control_ends parts) cells) (λ clusters. refl) right step
  where
    right : (tiles : List TileAt) → clusters_give (cell_ends parts) (control_ends parts) cells tiles [] ≡ []
    right [] = refl
    right (t ∷ tiles) = refl

    step : (t : TileAt) (tiles : List TileAt) (cluster : Cluster) (clusters : List Cluster)
        → clusters_give (cell_ends parts) (control_ends parts) cells (t ∷ tiles) (cluster ∷ clusters) ≡ cluster_ends parts cells cluster t ++ clusters_give (cell_ends parts) (control_ends parts) cells tiles clusters
    step t tiles cluster clusters = refl

pub clusters_are : (parts : Parts) (cells : List LogicCell) (tiles : List TileAt) (clusters : List Cluster) (old new : List End) → new ≡ old ++ sides (cluster_ends parts cells) tiles 0 clusters
    → new ≡ old ++ clusters_give (cell_ends parts) (control_ends parts) cells tiles clusters
clusters_are parts cells tiles clusters old new e = e ∙ ap (λ xs. old ++ xs) (clusters_sides parts cells tiles clusters)
