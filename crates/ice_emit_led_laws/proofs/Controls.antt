-- The control set of a cluster is that of a flip-flop.
use Rattle.std.proofs.Common.{◌≡◌, ◌⊎◌, ℕ, zero, suc, ◌+◌, Bool, true, false, cond, Option, None, Some, List, [], ◌∷◌, ◌++◌, inl, inr, length, map, drop, get_or, refl, ap, ◌∙◌, subst}
use Rattle.std.specs.Prelude.{flat_map, fold, slice_get}
use Rattle.std.specs.List.{range_with_len, list_any}
use Rattle.std.proofs.lemmas.Option.{none-some, same_Some}
use Rattle.ice_base.proofs.Options.{and_then_some}
use Rattle.ice_base_values.specs.Order.{At, Has}
use Rattle.ice_base_values.proofs.Members.{Has_none, Has_cases, At_parts, map_At, map_Has}
use Rattle.ice_decode.proofs.Members.{Has_append_cases}
use Rattle.ice_net.specs.declared.kind.Reset.{Reset}
use Rattle.ice_cells.specs.declared.cell.Control.{Control}
use Rattle.ice_cells.specs.declared.cell.LogicCell.{LogicCell}
use Rattle.ice_cells.specs.declared.cluster.Cluster.{Cluster}
use Rattle.ice_cells.specs.declared.cluster.Clusters.{Clusters}
use Rattle.ice_cells.specs.declared.cluster.TileCells.{TileCells}
use Rattle.ice_cells.specs.declared.design.Design.{Design}
use Rattle.ice_cells.specs.declared.design.Run.{Run}
use Rattle.ice_cells.specs.Clusters.{room, filled_one, filled, left, run_piece, run_pieces, runs_pieces, set_piece, set_pieces, sets_pieces, plain_piece, plain_pieces, held_list, flop_if, flop_at, flops_by, loose_flops, with_slots}
use Rattle.ice_cells.specs.Clusterings.{opened_by, groups_by, clusters_with, IsClustering}
use Rattle.ice_cells.specs.Pieces.{pieces_count, piece, control_by, control_at}
use Rattle.ice_cells.specs.Same.{same_control}
use Rattle.ice_cells.specs.Sets.{FlopCell, with_set, sets_of, cells_with}
use Rattle.ice_cells.proofs.Permuted.{Has_permuted}
use Rattle.ice_emit_rows_laws.proofs.Mapped.{Has_mapped_by}

-- ---- control sets are those of flip-flops
one_set : (sets : List Control) (control s : Control) (b : Bool) → Has (cond b sets (sets ++ control ∷ [])) s → Has sets s ⊎ (control ≡ s)
one_set sets control s true has = inl has
one_set sets control s false has = elim (Has_append_cases sets (control ∷ []) s has) [
  | inl old ↦ inl old
  | inr new ↦ elim (Has_cases control s [] new) [ inl same ↦ inr same | inr none ↦ absurd (Has_none s none) ]
]

sets_back : (sets controls : List Control) (s : Control) → Has (fold with_set sets controls) s → Has sets s ⊎ Has controls s
sets_back sets [] s has = inl has
sets_back sets (control ∷ controls) s has = elim (sets_back (with_set sets control) controls s has) [
  | inl early ↦ elim (one_set sets control s (list_any (same_control control) sets) early) [ inl old ↦ inl old | inr same ↦ inr (0, ap (λ (c : Control). Some c) same) ]
  | inr late ↦ inr (suc late.0, late.1)
]

flop_is : (h : Bool) (k : ℕ) (control : Option Control) (flop : FlopCell) → flop_if h k control ≡ Some flop → control ≡ Some flop.1
flop_is true k control flop e = absurd (none-some flop e)
flop_is false k None flop e = absurd (none-some flop e)
flop_is false k (Some x) flop e = ap (λ (f : FlopCell). Some f.1) (same_Some (k, x) flop e)

module _ (cells : List LogicCell) where
  -- a flip-flop is driven so
  abbrev IsOfFlop : Control → Type 0
  IsOfFlop control = (c : ℕ) × (control_at cells c ≡ Some control)

  abbrev IsTold : TileCells → Type 0
  IsTold group = (control : Control) → group.control ≡ Some control → IsOfFlop control

  abbrev AllTold : List TileCells → Type 0
  AllTold groups = (k : ℕ) (group : TileCells) → At groups k group → IsTold group

  none_told : AllTold []
  none_told k group at = absurd (none-some group at)

  append_told : (a b : List TileCells) → AllTold a → AllTold b → AllTold (a ++ b)
  append_told a b f g k group at = elim (At_parts a b k group at) [ inl here ↦ f k group here | inr there ↦ g there.0 group there.2 ]

  map_told : {X : Type 0} (f : X → TileCells) → ((x : X) → IsTold (f x)) → (xs : List X) → AllTold (map f xs)
  map_told f each xs k group at = let back = map_At f xs k group at in subst IsTold back.2 (each back.0)

  filled_told : (groups : List TileCells) (plains : List ℕ) → AllTold groups → AllTold (filled groups plains)
  filled_told [] plains told k group at = absurd (none-some group at)
  filled_told (g ∷ groups) plains told zero group at = subst IsTold (same_Some (filled_one g plains) group at) (told 0 g refl)
  filled_told (g ∷ groups) plains told (suc k) group at = filled_told groups (drop (room g) plains) (λ j other there. told (suc j) other there) k group at

  run_told : (r : ℕ) (members : List ℕ) (k : ℕ) → IsTold (run_piece cells r members k)
  run_told r members k control e = let got = Has_mapped_by (control_at cells) (piece members k) control (0, e) in (got.0, got.2)

  runs_told : (r : ℕ) (runs : List Run) → AllTold (runs_pieces cells r runs)
  runs_told r [] = none_told
  runs_told r (run ∷ runs) =
      append_told (run_pieces cells r run) (runs_pieces cells (r + 1) runs)
      (map_told (run_piece cells r run.cells) (run_told r run.cells) (range_with_len 0 (pieces_count run.cells))) (runs_told (r + 1) runs)

  sets_told : (flops : List FlopCell) (sets : List Control) → ((s : Control) → Has sets s → IsOfFlop s) → AllTold (flat_map (λ control. set_pieces control (cells_with flops control)) sets)
  sets_told flops [] each = none_told
  sets_told flops (s ∷ sets) each =
      append_told (set_pieces s (cells_with flops s)) (flat_map (λ control. set_pieces control (cells_with flops control)) sets)
      (map_told (set_piece s (cells_with flops s)) (λ k control e. subst IsOfFlop (same_Some s control e) (each s (0, refl))) (range_with_len 0 (pieces_count (cells_with flops s))))
      (sets_told flops sets (λ other has. each other (suc has.0, has.1)))

  set_of_flop : (held : List Bool) (flops : List FlopCell) → ((flop : FlopCell) → Has flops flop → Has (flops_by held cells) flop) → (s : Control) → Has (sets_of flops) s → IsOfFlop s
  set_of_flop held flops among s has = elim (sets_back [] (map (λ (flop : FlopCell). flop.1) flops) s has) [
    | inl none ↦ absurd (Has_none s none)
    | inr some ↦ (
        let flop = map_Has (λ (flop : FlopCell). flop.1) flops s some in
        let from = Has_mapped_by (flop_at held cells) (range_with_len 0 (length cells)) flop.0 (among flop.0 flop.1) in
        (from.0, flop_is (get_or held from.0 false) from.0 (control_at cells from.0) flop.0 from.2 ∙ ap (λ (c : Control). Some c) flop.2))
  ]

  plain_told : (plains : List ℕ) → AllTold (plain_pieces plains)
  plain_told plains = map_told (plain_piece plains) (λ k control e. absurd (none-some control e)) (range_with_len 0 (pieces_count plains))

  groups_told : (runs : List Run) (flops : List FlopCell) (plains : List ℕ) → ((flop : FlopCell) → Has flops flop → Has (loose_flops cells runs) flop) → AllTold (groups_by cells runs flops plains)
  groups_told runs flops plains among =
      append_told (filled (opened_by cells runs flops) plains) (plain_pieces (left (opened_by cells runs flops) plains))
      (filled_told (opened_by cells runs flops) plains
      (append_told (runs_pieces cells 0 runs) (sets_pieces flops) (runs_told 0 runs) (sets_told flops (sets_of flops) (set_of_flop (held_list runs (length cells)) flops among))))
      (plain_told (left (opened_by cells runs flops) plains))

by_flop : (o : Option (Control × Reset)) (control : Control) → control_by o ≡ Some control → (kind : Reset) × (o ≡ Some (control, kind))
by_flop None control e = absurd (none-some control e)
by_flop (Some flop) control e = (flop.1, ap (λ (c : Control). Some (c, flop.1)) (same_Some flop.0 control e))

-- a flip-flop of the design has the control set of a cluster
pub control_told : (d : Design) (clusters : Clusters) → IsClustering d clusters → (n : ℕ) (cluster : Cluster) (control : Control) → At clusters.list n cluster → cluster.control ≡ Some control
    → (c : ℕ) × (cell : LogicCell) × (kind : Reset) × At d.cells c cell × (cell.flop ≡ Some (control, kind))
control_told d clusters of_cells n cluster control at e =
    let made : At (clusters_with d of_cells.flops of_cells.plains).list n cluster = subst (λ (x : Clusters). At x.list n cluster) of_cells.is at in
    let back = map_At with_slots (groups_by d.cells d.runs of_cells.flops of_cells.plains) n cluster made in
    let among : (flop : FlopCell) → Has of_cells.flops flop → Has (loose_flops d.cells d.runs) flop = λ flop has. Has_permuted (loose_flops d.cells d.runs) of_cells.flops flop of_cells.flops_are has in
    let told = groups_told d.cells d.runs of_cells.flops of_cells.plains among n back.0 back.1 control (ap (λ (x : Cluster). x.control) back.2 ∙ e) in
    let cell = and_then_some (λ (x : LogicCell). control_by x.flop) (slice_get d.cells told.0) control told.1 in
    let flop = by_flop cell.0.flop control cell.2 in
    (told.0, cell.0, flop.0, cell.1, flop.1)
