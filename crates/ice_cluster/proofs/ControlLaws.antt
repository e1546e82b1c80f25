-- Each flip-flop of a cluster is driven as the cluster says.
use Rattle.std.proofs.Common.{◌≡◌, ◌⊎◌, ℕ, zero, suc, ◌+◌, ◌*◌, Bool, true, false, Option, None, Some, List, [], ◌∷◌, ◌++◌, length, map, take, drop, get_or, refl, ap, sym, ◌∙◌, subst, inl, inr}
use Rattle.std.specs.Prelude.{filter, filter_map, flat_map, slice_get}
use Rattle.std.specs.List.{range_with_len, cons_option}
use Rattle.std.proofs.lemmas.Option.{none-some, same_Some}
use Rattle.ice_base_values.specs.Order.{At, Has}
use Rattle.ice_base_values.proofs.Members.{map_At, map_Has, filter_Has, At_parts, Has_cases}
use Rattle.ice_base_values.proofs.Places.{At_take, At_drop}
use Rattle.ice_cells.specs.declared.cell.Control.{Control}
use Rattle.ice_cells.specs.declared.cell.LogicCell.{LogicCell}
use Rattle.ice_cells.specs.declared.cluster.Cluster.{Cluster}
use Rattle.ice_cells.specs.declared.cluster.Clusters.{Clusters}
use Rattle.ice_cells.specs.declared.cluster.TileCells.{TileCells}
use Rattle.ice_cells.specs.declared.design.Design.{Design}
use Rattle.ice_cells.specs.declared.design.Run.{Run}
use Rattle.ice_cells.specs.Clusters.{room, filled_one, filled, left, run_piece, run_pieces, runs_pieces, set_piece, set_pieces, sets_pieces, plain_piece, plain_pieces, held_list, flop_if, flop_at, flops_by, plain_if, plain_at, plains_by, loose_flops, loose_plains, with_slots}
use Rattle.ice_cells.specs.Clusterings.{opened_by, groups_by, clusters_with, IsClustering}
use Rattle.ice_cells.specs.Formed.{IsFormed}
use Rattle.ice_cells.specs.Pieces.{pieces_count, piece, control_at, first_control}
use Rattle.ice_cells.specs.Same.{same_control}
use Rattle.ice_cells.specs.Sets.{FlopCell, sets_of, cells_with}
use Rattle.ice_cells.proofs.Permuted.{Has_permuted}
use Rattle.ice_cells.proofs.SameControls.{same_control_is}
use Rattle.ice_cluster.specs.Slots.{AreDriven}
use Rattle.ice_cluster.proofs.SlotLaws.{slot_back}

-- ---- parts of lists
Has_take : {X : Type 0} (k : ℕ) (xs : List X) (x : X) → Has (take k xs) x → Has xs x
Has_take k xs x has = (has.0, (At_take k xs has.0 x has.1).1)

Has_drop : {X : Type 0} (k : ℕ) (xs : List X) (x : X) → Has (drop k xs) x → Has xs x
Has_drop k xs x has = (k + has.0, sym (At_drop xs k has.0) ∙ has.1)

Has_piece : (xs : List ℕ) (k c : ℕ) → Has (piece xs k) c → Has xs c
Has_piece xs k c has = Has_drop (8 * k) xs c (Has_take 8 (drop (8 * k) xs) c has)

-- ---- what a filter_map has
filter_map_Has : {X Y : Type 0} (f : X → Option Y) (xs : List X) (y : Y) → Has (filter_map f xs) y → (x : X) × (f x ≡ Some y)
filter_map_Has f [] y has = absurd (none-some y has.1)
filter_map_Has {X} {Y} f (x ∷ xs) y has = by (f x) refl has (filter_map_Has f xs y)
  where
    by : (o : Option Y) → f x ≡ o → Has (cons_option o (filter_map f xs)) y → (Has (filter_map f xs) y → (x : X) × (f x ≡ Some y)) → (x : X) × (f x ≡ Some y)
    by None e has rest = rest has
    by (Some z) e has rest = elim (Has_cases z y (filter_map f xs) has) [
      | inl same ↦ (x, e ∙ ap Some same)
      | inr more ↦ rest more
    ]

flop_back : (h : Bool) (k : ℕ) (control : Option Control) (flop : FlopCell) → flop_if h k control ≡ Some flop → (flop.0 ≡ k) × (control ≡ Some flop.1)
flop_back true k control flop e = absurd (none-some flop e)
flop_back false k None flop e = absurd (none-some flop e)
flop_back false k (Some x) flop e =
    let same : (k, x) ≡ flop = same_Some (k, x) flop e in
    (sym (ap (λ (f : FlopCell). f.0) same), ap (λ (f : FlopCell). Some f.1) same)

plain_back : (h : Bool) (k : ℕ) (control : Option Control) (c : ℕ) → plain_if h k control ≡ Some c → (k ≡ c) × (control ≡ None)
plain_back true k control c e = absurd (none-some c e)
plain_back false k None c e = (same_Some k c e, refl)
plain_back false k (Some x) c e = absurd (none-some c e)

module _ (cells : List LogicCell) where
  abbrev IsDriven : TileCells → Type 0
  IsDriven group = (c : ℕ) (control : Control) → Has group.cells c → control_at cells c ≡ Some control → group.control ≡ Some control

  abbrev AllDriven : List TileCells → Type 0
  AllDriven groups = (k : ℕ) (group : TileCells) → At groups k group → IsDriven group

  abbrev ArePlain : List ℕ → Type 0
  ArePlain plains = (c : ℕ) → Has plains c → control_at cells c ≡ None

  none_driven : AllDriven []
  none_driven k group at = absurd (none-some group at)

  append_driven : (a b : List TileCells) → AllDriven a → AllDriven b → AllDriven (a ++ b)
  append_driven a b f g k group at = by (At_parts a b k group at)
    where
      by : At a k group ⊎ ((j : ℕ) × (k ≡ length a + j) × At b j group) → IsDriven group
      by (inl here) = f k group here
      by (inr (j, e, there)) = g j group there

  map_driven : (f : ℕ → TileCells) → ((k : ℕ) → IsDriven (f k)) → (ks : List ℕ) → AllDriven (map f ks)
  map_driven f each ks k group at = let back = map_At f ks k group at in subst IsDriven back.2 (each back.0)

  -- ---- plain cells bring no flip-flop
  plain_never : (plains : List ℕ) → ArePlain plains → (c : ℕ) (control : Control) → Has plains c → control_at cells c ≡ Some control → ⊥
  plain_never plains plain c control has e = none-some control (sym (plain c has) ∙ e)

  filled_driven : (groups : List TileCells) (plains : List ℕ) → AllDriven groups → ArePlain plains → AllDriven (filled groups plains)
  filled_driven [] plains driven plain k group at = absurd (none-some group at)
  filled_driven (g ∷ groups) plains driven plain zero group at = subst IsDriven (same_Some (filled_one g plains) group at) first
    where
      first : IsDriven (filled_one g plains)
      first c control has e = by (At_parts g.cells (take (room g) plains) has.0 c has.1)
        where
          by : At g.cells has.0 c ⊎ ((j : ℕ) × (has.0 ≡ length g.cells + j) × At (take (room g) plains) j c) → g.control ≡ Some control
          by (inl here) = driven 0 g refl c control (has.0, here) e
          by (inr (j, f, there)) = absurd (plain_never plains plain c control (Has_take (room g) plains c (j, there)) e)
  filled_driven (g ∷ groups) plains driven plain (suc k) group at =
      filled_driven groups (drop (room g) plains) (λ j other there. driven (suc j) other there) (λ c has. plain c (Has_drop (room g) plains c has)) k group at

  left_plain : (groups : List TileCells) (plains : List ℕ) → ArePlain plains → ArePlain (left groups plains)
  left_plain [] plains plain = plain
  left_plain (g ∷ groups) plains plain = left_plain groups (drop (room g) plains) (λ c has. plain c (Has_drop (room g) plains c has))

  -- ---- chunks of runs
  first_driven : (members : List ℕ) → ((b c : ℕ) (one other : Control) → Has members b → Has members c → control_at cells b ≡ Some one → control_at cells c ≡ Some other → one ≡ other)
      → (c : ℕ) (control : Control) → Has members c → control_at cells c ≡ Some control → first_control cells members ≡ Some control
  first_driven [] alike c control has e = absurd (none-some c has.1)
  first_driven (x ∷ members) alike c control has e = by (control_at cells x) refl (Has_cases x c members has) (first_driven members (λ a b one other i j f g. alike a b one other (suc i.0, i.1) (suc j.0, j.1) f g) c control)
    where
      by : (o : Option Control) → control_at cells x ≡ o → (x ≡ c) ⊎ Has members c → (Has members c → control_at cells c ≡ Some control → first_control cells members ≡ Some control)
          → slice_get (cons_option o (filter_map (control_at cells) members)) 0 ≡ Some control
      by (Some y) f where_ rest = ap Some (alike x c y control (0, refl) has f e)
      by None f (inl same) rest = absurd (none-some control (sym (ap (control_at cells) (sym same) ∙ f) ∙ e))
      by None f (inr more) rest = rest more e

  abbrev AreAlike : List ℕ → Type 0
  AreAlike members = (b c : ℕ) (one other : Control) → Has members b → Has members c → control_at cells b ≡ Some one → control_at cells c ≡ Some other → one ≡ other

  runs_driven : (r : ℕ) (runs : List Run) → ((i k : ℕ) (run : Run) → At runs i run → AreAlike (piece run.cells k)) → AllDriven (runs_pieces cells r runs)
  runs_driven r [] alike = none_driven
  runs_driven r (run ∷ runs) alike =
      append_driven (run_pieces cells r run) (runs_pieces cells (r + 1) runs)
      (map_driven (run_piece cells r run.cells) (λ k c control has e. first_driven (piece run.cells k) (alike 0 k run refl) c control has e) (range_with_len 0 (pieces_count run.cells)))
      (runs_driven (r + 1) runs (λ i k other at. alike (suc i) k other at))

  -- ---- control sets
  member_driven : (flops : List FlopCell) → ((flop : FlopCell) → Has flops flop → control_at cells flop.0 ≡ Some flop.1) → (s control : Control) (c : ℕ)
      → Has (cells_with flops s) c → control_at cells c ≡ Some control → Some s ≡ Some control
  member_driven flops are s control c has e =
      let back = map_Has (λ (flop : FlopCell). flop.0) (filter (λ (flop : FlopCell). same_control flop.1 s) flops) c has in
      let passes = filter_Has (λ (flop : FlopCell). same_control flop.1 s) flops back.0 back.1 in
      let is : (back.0).1 ≡ s = same_control_is (back.0).1 s passes.1 in
      ap Some (sym is) ∙ sym (are back.0 passes.0) ∙ ap (control_at cells) back.2 ∙ e

  sets_driven : (flops : List FlopCell) → ((flop : FlopCell) → Has flops flop → control_at cells flop.0 ≡ Some flop.1) → (sets : List Control)
      → AllDriven (flat_map (λ control. set_pieces control (cells_with flops control)) sets)
  sets_driven flops are [] = none_driven
  sets_driven flops are (s ∷ sets) =
      append_driven (set_pieces s (cells_with flops s)) (flat_map (λ control. set_pieces control (cells_with flops control)) sets)
      (map_driven (set_piece s (cells_with flops s)) (λ k c control has e. member_driven flops are s control c (Has_piece (cells_with flops s) k c has) e) (range_with_len 0 (pieces_count (cells_with flops s))))
      (sets_driven flops are sets)

  flops_are : (held : List Bool) (flop : FlopCell) → Has (flops_by held cells) flop → control_at cells flop.0 ≡ Some flop.1
  flops_are held flop has =
      let from = filter_map_Has (flop_at held cells) (range_with_len 0 (length cells)) flop has in
      let back = flop_back (get_or held from.0 false) from.0 (control_at cells from.0) flop from.1 in
      ap (control_at cells) back.0 ∙ back.1

  plains_are : (held : List Bool) → ArePlain (plains_by held cells)
  plains_are held c has =
      let from = filter_map_Has (plain_at held cells) (range_with_len 0 (length cells)) c has in
      let back = plain_back (get_or held from.0 false) from.0 (control_at cells from.0) c from.1 in
      ap (control_at cells) (sym back.0) ∙ back.1

  pieces_plain : (plains : List ℕ) → ArePlain plains → AllDriven (plain_pieces plains)
  pieces_plain plains plain =
      map_driven (plain_piece plains) (λ k c control has e. absurd (plain_never plains plain c control (Has_piece plains k c has) e)) (range_with_len 0 (pieces_count plains))

  groups_driven : (runs : List Run) (flops : List FlopCell) (plains : List ℕ) → ((i k : ℕ) (run : Run) → At runs i run → AreAlike (piece run.cells k))
      → ((flop : FlopCell) → Has flops flop → control_at cells flop.0 ≡ Some flop.1) → ArePlain plains → AllDriven (groups_by cells runs flops plains)
  groups_driven runs flops plains alike flops_are plains_are =
      append_driven (filled (opened_by cells runs flops) plains) (plain_pieces (left (opened_by cells runs flops) plains))
      (filled_driven (opened_by cells runs flops) plains
      (append_driven (runs_pieces cells 0 runs) (sets_pieces flops) (runs_driven 0 runs alike) (sets_driven flops flops_are (sets_of flops)))
      plains_are)
      (pieces_plain (left (opened_by cells runs flops) plains) (left_plain (opened_by cells runs flops) plains plains_are))

made_driven : (d : Design) (flops : List FlopCell) (plains : List ℕ) → IsFormed d → ((flop : FlopCell) → Has flops flop → control_at d.cells flop.0 ≡ Some flop.1) → ArePlain d.cells plains
    → AreDriven d (clusters_with d flops plains)
made_driven d flops plains formed flops_have plains_have k i c cluster control at slot e =
    let back = map_At with_slots (groups_by d.cells d.runs flops plains) k cluster at in
    let here : At (back.0).cells i c = slot_back (back.0).cells i c (subst (λ (x : Cluster). At x.cells i (Some c)) (sym back.2) slot) in
    ap (λ (x : Cluster). x.control) (sym back.2) ∙ groups_driven d.cells d.runs flops plains alike flops_have plains_have k back.0 back.1 c control (i, here) e
  where
    alike : (r j : ℕ) (run : Run) → At d.runs r run → AreAlike d.cells (piece run.cells j)
    alike r j run at_run a b one other has_a has_b f g = formed.alike r j has_a.0 has_b.0 a b run one other at_run has_a.1 has_b.1 f g

pub are_driven : (d : Design) (clusters : Clusters) → IsFormed d → IsClustering d clusters → AreDriven d clusters
are_driven d clusters formed of_cells =
    subst (AreDriven d) (sym of_cells.is)
    (made_driven d of_cells.flops of_cells.plains formed
    (λ flop has. flops_are d.cells (held_list d.runs (length d.cells)) flop (Has_permuted (loose_flops d.cells d.runs) of_cells.flops flop of_cells.flops_are has))
    (λ c has. plains_are d.cells (held_list d.runs (length d.cells)) c (Has_permuted (loose_plains d.cells d.runs) of_cells.plains c of_cells.plains_are has)))
