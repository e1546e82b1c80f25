-- Each node of a design with runs has a value, where each node of the design without them has one.
use Rattle.std.proofs.Common.{◌≡◌, ℕ, suc, Bool, true, false, cond, Option, None, Some, List, [], ◌∷◌, length, refl, sym, ap, ◌∙◌, subst, arith}
use Rattle.std.specs.Prelude.{unwrap_or, slice_get, slice_index_or, option_map}
use Rattle.std.specs.Option.{option_map_or}
use Rattle.std.proofs.lemmas.Option.{slice_get-map}
use Rattle.ice_net.specs.declared.kind.Reset.{Reset}
use Rattle.ice_base_values.specs.Arriving.{HasValue, HaveValues}
use Rattle.ice_base_values.specs.Order.{At, Has}
use Rattle.ice_base_values.proofs.Arriving.{value_made}
use Rattle.ice_base_values.proofs.Members.{At_within}
use Rattle.ice_cells.specs.declared.cell.Control.{Control}
use Rattle.ice_cells.specs.declared.cell.LogicCell.{LogicCell}
use Rattle.ice_cells.specs.declared.design.Design.{Design}
use Rattle.ice_cells.specs.declared.root.Root.{Root}
use Rattle.ice_cells.specs.declared.root.Root.TheVariants.{PadIn, CellOut, GlobalOut, CarryOut}
use Rattle.ice_cells.specs.Meaning.{cell_inputs, output_reads, carry_reads, node_reads, node_makes, system_of, node_level, HasValues, given}
use Rattle.ice_cells.specs.Moves.{renamed, renamed_source, renamed_flop, kept_flop, become, moved_cell}
use Rattle.ice_cells.specs.Nodes.{Node, Net, Level, net}
use Rattle.ice_cells.specs.Readings.{roots_read}
use Rattle.ice_cells.specs.Runs.{fed_numbers, moved_numbers, runs_of}
use Rattle.ice_cells.specs.Tables.{table}
use Rattle.ice_cells.proofs.TableLaws.{get_or-table}
use Rattle.ice_carry_chains.specs.Before.{IsBeforeRuns}
use Rattle.ice_carry_chains.proofs.DesignRuns.{old_at}
use Rattle.ice_carry_laws.specs.AreRuns.{IsIn, home, own, taking, passing}
use Rattle.ice_carry_laws.specs.RunLaws.{ReadsWithin}
use Rattle.ice_carry_laws.proofs.Arriving.{arrives, read_value, have_four, table_new}
use Rattle.ice_cells.proofs.NodeLevels.{level_there, level_meets, level_rank, level_falls}
use Rattle.ice_carry_laws.proofs.NewCells.{NewCell, Kept, Taking, Passing, Gone, new_cell}
use Rattle.ice_carry_laws.proofs.ReadRoots.{four_read}
use Rattle.ice_carry_laws.proofs.Shown.{roots_in, reads_in}
use Rattle.ice_carry_laws.proofs.TiedRuns.{are_runs}

module _ (d : Design) (ready : IsBeforeRuns d) (within : ReadsWithin d) (levels new_kept : List Bool) where
  abbrev new : Design
  new = runs_of d

  abbrev moved : List (Option ℕ)
  moved = moved_numbers d

  abbrev fed : List (Option ℕ)
  fed = fed_numbers d

  -- what flip-flops keep, found again without runs
  abbrev kept : List Bool
  kept = table (λ c. slice_index_or new_kept (home moved c) false) (length d.cells)

  same_kept : (c : ℕ) (cell : LogicCell) (flop : Control × Reset) → At d.cells c cell → cell.flop ≡ Some flop → slice_index_or new_kept (home moved c) false ≡ slice_index_or kept c false
  same_kept c cell flop at e = sym (get_or-table (λ c. slice_index_or new_kept (home moved c) false) (length d.cells) c false (At_within d.cells c cell at))

  abbrev v : Node → Bool
  v n = node_level d levels kept n

  abbrev HasNew : Node → Bool → Type 0
  HasNew n x = HasValue (system_of new levels new_kept) n x

  has_own : (n : Node) → IsIn d n → HasNew (own moved n) (v n)
  has_own n is =
      arrives d new moved fed (are_runs d ready) levels kept new_kept same_kept v (level_meets d ready.values levels kept) (level_rank d ready.values levels kept) (level_falls d ready.values levels kept)
      (reads_in d ready within) (suc (level_rank d ready.values levels kept n)) n (omega arith) is

  has_root : (r : Root) → Has (roots_read d) (Some r) → HasNew (Net (renamed moved fed r)) (v (Net r))
  has_root r has =
      read_value d new moved fed (are_runs d ready) levels kept new_kept same_kept v (level_meets d ready.values levels kept) (level_rank d ready.values levels kept) (level_falls d ready.values levels kept)
      (reads_in d ready within) r (has_own (Net r) (roots_in d ready within r has))

  made : (n : Node) (ps : List (Option Node)) (xs : List Bool) → node_reads new n ≡ ps → HaveValues (system_of new levels new_kept) false ps xs → (x : Bool) × HasNew n x
  made n ps xs e all = (
    node_makes new levels new_kept n xs,
    value_made (node_reads new) false (node_makes new levels new_kept) n xs (node_makes new levels new_kept n xs) (subst (λ (qs : List (Option Node)). HaveValues (system_of new levels new_kept) false qs xs) (sym e) all) refl,
  )

  nothing : (n : Node) → node_reads new n ≡ [] → (x : Bool) × HasNew n x
  nothing n e = made n [] [] e tt

  out_reads : (c : ℕ) (o : Option LogicCell) → slice_get new.cells c ≡ o → node_reads new (Net (CellOut c)) ≡ option_map_or (λ (cell : LogicCell). output_reads cell.flop (cell_inputs new c cell)) o []
  out_reads c o e = ap (λ o. option_map_or (λ (cell : LogicCell). output_reads cell.flop (cell_inputs new c cell)) o []) e

  up_reads : (c : ℕ) (o : Option LogicCell) → slice_get new.cells c ≡ o → node_reads new (Net (CarryOut c)) ≡ option_map_or (carry_reads new c) o []
  up_reads c o e = ap (λ o. option_map_or (carry_reads new c) o []) e

  -- ---- outputs of cells
  kept_out : (c : ℕ) (x : LogicCell) → At d.cells c x → (o : Option ℕ) → slice_index_or moved c None ≡ o → (y : Bool) × HasNew (Net (CellOut c)) y
  kept_out c x at None e = (v (Net (CellOut c)), subst (λ (o : Option ℕ). HasNew (Net (CellOut (unwrap_or o c))) (v (Net (CellOut c)))) e (has_own (Net (CellOut c)) (x, at)))
  kept_out c x at (Some m) e = (
    given d v c x,
    table_new d new moved fed (are_runs d ready) levels kept new_kept same_kept v (level_meets d ready.values levels kept) (level_rank d ready.values levels kept) (level_falls d ready.values levels kept)
        (reads_in d ready within) c x at
        (have_four d new moved fed (are_runs d ready) levels kept new_kept same_kept v (level_meets d ready.values levels kept) (level_rank d ready.values levels kept) (level_falls d ready.values levels kept)
        (reads_in d ready within) x (λ k r there q f. has_own (Net q) (roots_in d ready within q (four_read d c x at k r there q f))))
        (ap (λ o. renamed_flop moved fed (kept_flop o x.flop)) e),
  )

  out_value : (c : ℕ) (y : LogicCell) → At new.cells c y → NewCell d c y → (x : Bool) × HasNew (Net (CellOut c)) x
  out_value c y at (Kept x old) = kept_out c x old (slice_index_or moved c None) refl
  out_value c y at (Taking root takes has passed) =
      made (Net (CellOut c)) (None ∷ Some (Net (renamed moved fed root)) ∷ None ∷ None ∷ []) (false ∷ v (Net root) ∷ false ∷ false ∷ [])
      (out_reads c (Some (taking (renamed moved fed root))) takes.at) (refl, (has_root root has, (refl, (refl, tt))))
  out_value c y at (Passing k passes has) =
      made (Net (CellOut c)) (None ∷ None ∷ None ∷ Some (Net (CarryOut k)) ∷ []) (false ∷ false ∷ false ∷ v (Net (CarryOut k)) ∷ [])
      (out_reads c (Some passing) passes.at ∙ ap (λ o. None ∷ None ∷ None ∷ o ∷ []) passes.into) (refl, (refl, (refl, (has_own (Net (CarryOut k)) (ready.there k has), tt))))
  out_value c y at (Gone m cell flop old e mover is) =
      let has_flop : y.flop ≡ renamed_flop moved fed (Some flop)
      = ap (λ (z : LogicCell). z.flop) (sym is) ∙ ap (λ o. renamed_flop moved fed (option_map_or (λ (x : LogicCell). x.flop) o None)) old ∙ ap (renamed_flop moved fed) e in
      nothing (Net (CellOut c)) (out_reads c (Some y) at ∙ ap (λ f. output_reads f (cell_inputs new c y)) has_flop)

  -- ---- carries
  kept_up : (c : ℕ) (x : LogicCell) → At d.cells c x → (b : Bool) → x.carry ≡ b → (y : Bool) × HasNew (Net (CarryOut c)) y
  kept_up c x at true e = (v (Net (CarryOut c)), has_own (Net (CarryOut c)) (x, at, e))
  kept_up c x at false e =
      nothing (Net (CarryOut c)) (up_reads c (Some (become moved fed c x)) (old_at d c x at) ∙ ap (λ b. cond b (carry_reads new c (record (become moved fed c x) { carry = true })) []) e)

  up_value : (c : ℕ) (y : LogicCell) → At new.cells c y → NewCell d c y → (x : Bool) × HasNew (Net (CarryOut c)) x
  up_value c y at (Kept x old) = kept_up c x old x.carry refl
  up_value c y at (Taking root takes has passed) =
      made (Net (CarryOut c)) (Some (Net (renamed moved fed root)) ∷ None ∷ Some (Level true) ∷ []) (v (Net root) ∷ false ∷ true ∷ [])
      (up_reads c (Some (taking (renamed moved fed root))) takes.at ∙ ap (λ o. Some (Net (renamed moved fed root)) ∷ None ∷ o ∷ []) takes.set)
      (has_root root has, (refl, (one, tt)))
    where
      one : HasNew (Level true) true
      one = value_made (node_reads new) false (node_makes new levels new_kept) (Level true) [] true tt refl
  up_value c y at (Passing k passes has) = nothing (Net (CarryOut c)) (up_reads c (Some passing) passes.at)
  up_value c y at (Gone m cell flop old e mover is) =
      nothing (Net (CarryOut c)) (up_reads c (Some (moved_cell moved fed d.cells m)) (at ∙ ap Some (sym is)))

  has_all : (n : Node) → (x : Bool) × HasNew n x
  has_all (Level b) = nothing (Level b) refl
  has_all (Net (PadIn k)) = nothing (Net (PadIn k)) refl
  has_all (Net (CellOut c)) = by (slice_get new.cells c) refl
    where
      by : (o : Option LogicCell) → slice_get new.cells c ≡ o → (x : Bool) × HasNew (Net (CellOut c)) x
      by None e = nothing (Net (CellOut c)) (out_reads c None e)
      by (Some y) e = out_value c y e (new_cell d ready c y e)
  has_all (Net (CarryOut c)) = by (slice_get new.cells c) refl
    where
      by : (o : Option LogicCell) → slice_get new.cells c ≡ o → (x : Bool) × HasNew (Net (CarryOut c)) x
      by None e = nothing (Net (CarryOut c)) (up_reads c None e)
      by (Some y) e = up_value c y e (new_cell d ready c y e)
  has_all (Net (GlobalOut g)) = by (slice_get d.globals g) refl
    where
      by : (o : Option (Option Root)) → slice_get d.globals g ≡ o → (x : Bool) × HasNew (Net (GlobalOut g)) x
      by (Some root) e = (v (Net (GlobalOut g)), has_own (Net (GlobalOut g)) (root, e))
      by None e =
          nothing (Net (GlobalOut g))
          (ap (λ o. option_map_or (λ root. net root ∷ []) o []) (slice_get-map (renamed_source moved fed) d.globals g ∙ ap (option_map (renamed_source moved fed)) e))

-- each node has a value afterwards
pub have_values : (d : Design) → IsBeforeRuns d → ReadsWithin d → HasValues (runs_of d)
have_values d ready within = record {
  each = λ levels kept node. (let got = has_all d ready within levels kept node in (got.0, level_there (runs_of d) levels kept node got.0 got.1));
}
