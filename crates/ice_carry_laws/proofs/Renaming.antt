-- What the inputs of a cell read, once its readers are renamed.
use Rattle.std.proofs.Common.{◌≡◌, ℕ, Bool, true, false, cond, Option, None, Some, List, [], ◌∷◌, refl, sym, ap, ◌∙◌}
use Rattle.std.specs.Prelude.{slice_index_or}
use Rattle.std.specs.Option.{option_map_or}
use Rattle.ice_base_values.specs.Order.{At}
use Rattle.ice_cells.specs.declared.cell.LogicCell.{LogicCell}
use Rattle.ice_cells.specs.declared.design.Design.{Design}
use Rattle.ice_cells.specs.declared.root.Root.{Root}
use Rattle.ice_cells.specs.declared.root.Root.TheVariants.{PadIn, CellOut, GlobalOut, CarryOut}
use Rattle.ice_cells.specs.Meaning.{input, cell_inputs}
use Rattle.ice_cells.specs.Moves.{renamed_source, is_chained, become}
use Rattle.ice_cells.specs.Nodes.{Node, Net, net, carry_into}
use Rattle.ice_carry_laws.specs.AreRuns.{AreRuns}

-- the inputs of a cell before its readers are renamed, and afterwards
abbrev pub four : LogicCell → List (Option Node)
four cell = input cell 0 ∷ input cell 1 ∷ input cell 2 ∷ input cell 3 ∷ []

abbrev pub four_new : List (Option ℕ) → List (Option ℕ) → LogicCell → List (Option Node)
four_new moved fed cell =
    net (renamed_source moved fed (slice_index_or cell.ins 0 None)) ∷ net (renamed_source moved fed (slice_index_or cell.ins 1 None)) ∷ net (renamed_source moved fed (slice_index_or cell.ins 2 None))
    ∷ net (renamed_source moved fed (slice_index_or cell.ins 3 None)) ∷ []

module _ (old new : Design) (moved fed : List (Option ℕ)) (runs : AreRuns old new moved fed) where
  -- what the last input of a cell reads afterwards
  last_chained : (c : ℕ) (cell : LogicCell) → At old.cells c cell → (o : Option Root) → slice_index_or cell.ins 3 None ≡ o → (b : Bool) → is_chained fed o ≡ b
      → cond (cond b true cell.carry_to_in3) (carry_into new c) (net (cond b None (renamed_source moved fed o))) ≡ net (renamed_source moved fed o)
  last_chained c cell at o e false f = ap (λ b. cond b (carry_into new c) (net (renamed_source moved fed o))) (runs.unchained c cell at)
  last_chained c cell at None e true f = cc
  last_chained c cell at (Some (PadIn k)) e true f = cc
  last_chained c cell at (Some (CellOut k)) e true f = cc
  last_chained c cell at (Some (GlobalOut k)) e true f = cc
  last_chained c cell at (Some (CarryOut k)) e true f = by (slice_index_or fed k None) refl f
    where
      by : (n : Option ℕ) → slice_index_or fed k None ≡ n → is_chained fed (Some (CarryOut k)) ≡ true → carry_into new c ≡ Some (Net (option_map_or (λ g. CellOut g) (slice_index_or fed k None) (CarryOut k)))
      by None g h = runs.chained c k cell at e g ∙ ap (λ n. Some (Net (option_map_or (λ g. CellOut g) n (CarryOut k)))) (sym g)
      by (Some n) g h = cc

  pub old_inputs : (c : ℕ) (cell : LogicCell) → At old.cells c cell → cell_inputs old c cell ≡ four cell
  old_inputs c cell at = ap (λ b. input cell 0 ∷ input cell 1 ∷ input cell 2 ∷ cond b (carry_into old c) (input cell 3) ∷ []) (runs.unchained c cell at)

  pub new_inputs : (c : ℕ) (cell : LogicCell) → At old.cells c cell → cell_inputs new c (become moved fed c cell) ≡ four_new moved fed cell
  new_inputs c cell at =
      ap (λ o. net (renamed_source moved fed (slice_index_or cell.ins 0 None)) ∷ net (renamed_source moved fed (slice_index_or cell.ins 1 None)) ∷ net (renamed_source moved fed (slice_index_or cell.ins 2 None)) ∷ o ∷ [])
      (last_chained c cell at (slice_index_or cell.ins 3 None) refl (is_chained fed (slice_index_or cell.ins 3 None)) refl)
