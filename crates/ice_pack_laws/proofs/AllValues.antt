-- Each node of a packed design has a value.
use Rattle.std.proofs.Common.{◌≡◌, ℕ, Bool, true, false, cond, Option, None, Some, List, [], ◌∷◌, length, refl, sym, ap, ◌∙◌, subst}
use Rattle.std.specs.Prelude.{slice_get, slice_index_or}
use Rattle.std.specs.Option.{option_map_or}
use Rattle.ice_base.specs.declared.number.SignalNo.{SignalNo}
use Rattle.ice_base_values.specs.Order.{At}
use Rattle.ice_base_values.proofs.Members.{At_within}
use Rattle.ice_base_values.proofs.Places.{At_same}
use Rattle.ice_net.specs.declared.cell.Cell.{Cell}
use Rattle.ice_net.specs.declared.kind.Reset.{Reset}
use Rattle.ice_net.specs.Formed.{IsBelow}
use Rattle.ice_net.specs.NetlistData.{NetlistData}
use Rattle.ice_cells.specs.declared.cell.Control.{Control}
use Rattle.ice_cells.specs.declared.cell.LogicCell.{LogicCell}
use Rattle.ice_cells.specs.declared.design.Design.{Design}
use Rattle.ice_cells.specs.declared.root.Root.{Root}
use Rattle.ice_cells.specs.declared.root.Root.TheVariants.{PadIn, CellOut, GlobalOut, CarryOut}
use Rattle.ice_cells.specs.Meaning.{cell_inputs, output_reads, carry_reads, node_reads, node_makes, input, HasValues}
use Rattle.ice_cells.specs.Nodes.{Node, Net, Level, net, carry_into}
use Rattle.ice_cells.specs.Packed.{PackPlan, no_inputs, ins_at, sink}
use Rattle.ice_cells.specs.Tables.{table}
use Rattle.ice_cells.proofs.TableLaws.{get_or-table}
use Rattle.ice_pack_laws.specs.IsPacked.{root_at, IsLogicCellOf, keeps, gives, carries, fixed, IsSunk}
use Rattle.ice_cells.proofs.NodeLevels.{level_there}
use Rattle.ice_pack_laws.proofs.Values.{KeepsSame, IsReady, HasD, HaveD, lev, made, put, sunk, input_claims, cell_claims, below_at, inputs_are, out_reads, table_there, carry_value}
use Rattle.ice_pack_laws.proofs.Inputs.{input_at}

-- what a flip-flop keeps, by the root of its output
abbrev kept_from : List Bool → Option Root → Bool
kept_from new_kept None = false
kept_from new_kept (Some (PadIn k)) = false
kept_from new_kept (Some (CellOut c)) = slice_index_or new_kept c false
kept_from new_kept (Some (GlobalOut g)) = false
kept_from new_kept (Some (CarryOut c)) = false

module _ (n : NetlistData) (d : Design) (p : PackPlan) (order : List ℕ) (ready : IsReady n d p order) (levels new_kept : List Bool) where
  abbrev kept : List Bool
  kept = table (λ j. kept_from new_kept (root_at p j)) (length n.cells)

  same_kept : KeepsSame n p kept new_kept
  same_kept j cell falling enable reset at e home root =
      sym (get_or-table (λ j. kept_from new_kept (root_at p j)) (length n.cells) j false (At_within n.cells j cell at) ∙ ap (kept_from new_kept) root)

  abbrev Has_value : Node → Type 0
  Has_value node = (x : Bool) × HasD n d p order ready levels kept new_kept same_kept node x

  abbrev Have_values : List (Option Node) → List Bool → Type 0
  Have_values ps xs = HaveD n d p order ready levels kept new_kept same_kept ps xs

  any : (node : Node) (ps : List (Option Node)) (xs : List Bool) → node_reads d node ≡ ps → Have_values ps xs → Has_value node
  any node ps xs e all = (node_makes d levels new_kept node xs, made n d p order ready levels kept new_kept same_kept node ps xs (node_makes d levels new_kept node xs) e all refl)

  one_sunk : (signal : Option SignalNo) → IsSunk d p signal → IsBelow (length n.names) signal → (ps : List (Option Node)) (xs : List Bool) → Have_values ps xs
      → Have_values (net (sink p signal) ∷ ps) (lev n d p order ready levels kept new_kept same_kept signal ∷ xs)
  one_sunk signal is below ps xs rest =
      put n d p order ready levels kept new_kept same_kept (sink p signal) (lev n d p order ready levels kept new_kept same_kept signal) ps xs
      (sunk n d p order ready levels kept new_kept same_kept signal is (input_claims n d p order ready levels kept new_kept same_kept signal below)) rest

  input_below : (j : ℕ) (cell : Cell) → At n.cells j cell → (k : ℕ) → IsBelow (length n.names) (slice_index_or cell.ins k None)
  input_below j cell at k = input_at (IsBelow (length n.names)) tt cell.ins (below_at n d p order ready levels kept new_kept same_kept j cell at) k

  four_of : (c : ℕ) (logic : LogicCell) (ins : List (Option Root)) (xs : List Bool) → At d.cells c logic → logic.flop ≡ None → logic.ins ≡ ins
      → Have_values (net (slice_index_or ins 0 None) ∷ net (slice_index_or ins 1 None) ∷ net (slice_index_or ins 2 None) ∷ net (slice_index_or ins 3 None) ∷ []) xs → Has_value (Net (CellOut c))
  four_of c logic ins xs at bare e all =
      any (Net (CellOut c)) _ xs
      (out_reads n d p order ready levels kept new_kept same_kept c logic None at bare
      ∙ inputs_are n d p order ready levels kept new_kept same_kept c logic ins (ready.packed.unchained c logic at) e) all

  from_stand : (c : ℕ) (logic : LogicCell) → At d.cells c logic → logic.flop ≡ None → IsLogicCellOf n d p c logic → Has_value (Net (CellOut c))
  from_stand c logic at bare (keeps flop e) = absurd (none_some flop (sym bare ∙ e))
    where
      none_some : (x : Control × Reset) → None ≡ Some x → ⊥
      none_some x f = cc f
  from_stand c logic at bare (gives j cell there is t same) =
      let r = table_there n d p order ready levels kept new_kept same_kept j cell there is (cell_claims n d p order ready levels kept new_kept same_kept j cell there) t in
      let one : t.logic ≡ logic = At_same d.cells c t.logic logic (subst (λ h. At d.cells h t.logic) same t.at) at in
      any (Net (CellOut c)) (cell_inputs d t.home t.logic) r.xs
      (out_reads n d p order ready levels kept new_kept same_kept c logic None at bare ∙ (λ i. cell_inputs d (sym same i) (sym one i))) r.have
  from_stand c logic at bare (carries j cell is e) =
      let ins : ins_at n.cells j ≡ cell.ins = ap (λ (o : Option Cell). option_map_or (λ (x : Cell). x.ins) o []) is.at in
      four_of c logic (None ∷ sink p (slice_index_or cell.ins 0 None) ∷ sink p (slice_index_or cell.ins 1 None) ∷ None ∷ [])
      (false ∷ lev n d p order ready levels kept new_kept same_kept (slice_index_or cell.ins 0 None) ∷ lev n d p order ready levels kept new_kept same_kept (slice_index_or cell.ins 1 None) ∷ false ∷ []) at bare
      (e ∙ ap (λ xs. None ∷ sink p (slice_index_or xs 0 None) ∷ sink p (slice_index_or xs 1 None) ∷ None ∷ []) ins)
      (refl, one_sunk (slice_index_or cell.ins 0 None) is.first (input_below j cell is.at 0) _ _ (one_sunk (slice_index_or cell.ins 1 None) is.second (input_below j cell is.at 1) (None ∷ []) (false ∷ []) (refl, tt)))
  from_stand c logic at bare (fixed level e) =
      four_of c logic no_inputs (false ∷ false ∷ false ∷ false ∷ []) at bare (ap (λ (x : LogicCell). x.ins) e) (refl, (refl, (refl, (refl, tt))))

  has_value : (node : Node) → Has_value node
  has_value (Level level) = any (Level level) [] [] refl tt
  has_value (Net (PadIn k)) = any (Net (PadIn k)) [] [] refl tt
  has_value (Net (GlobalOut g)) = by (slice_get d.globals g) refl
    where
      by : (o : Option (Option Root)) → slice_get d.globals g ≡ o → Has_value (Net (GlobalOut g))
      by None at = any (Net (GlobalOut g)) [] [] (ap (λ o. option_map_or (λ root. net root ∷ []) o []) at) tt
      by (Some root) at =
          let is = ready.packed.buffered g root at in
          any (Net (GlobalOut g)) (net (sink p is.0) ∷ []) _ (ap (λ o. option_map_or (λ root. net root ∷ []) o []) at ∙ ap (λ r. net r ∷ []) is.3) (one_sunk is.0 is.1 is.2 [] [] tt)
  has_value (Net (CellOut c)) = by (slice_get d.cells c) refl
    where
      by : (o : Option LogicCell) → slice_get d.cells c ≡ o → Has_value (Net (CellOut c))
      by None at = any (Net (CellOut c)) [] [] (ap (λ o. option_map_or (λ (x : LogicCell). output_reads x.flop (cell_inputs d c x)) o []) at) tt
      by (Some logic) at = by_flop logic.flop refl
        where
          by_flop : (f : Option (Control × Reset)) → logic.flop ≡ f → Has_value (Net (CellOut c))
          by_flop None e = from_stand c logic at e (ready.packed.stand c logic at)
          by_flop (Some flop) e = any (Net (CellOut c)) [] [] (out_reads n d p order ready levels kept new_kept same_kept c logic (Some flop) at e) tt
  has_value (Net (CarryOut c)) = by (slice_get d.cells c) refl
    where
      by : (o : Option LogicCell) → slice_get d.cells c ≡ o → Has_value (Net (CarryOut c))
      by None at = any (Net (CarryOut c)) [] [] (ap (λ o. option_map_or (carry_reads d c) o []) at) tt
      by (Some logic) at = by_carry logic.carry refl
        where
          by_carry : (b : Bool) → logic.carry ≡ b → Has_value (Net (CarryOut c))
          by_carry false e = any (Net (CarryOut c)) [] [] (ap (λ o. option_map_or (carry_reads d c) o []) at ∙ ap (λ b. cond b (input logic 1 ∷ input logic 2 ∷ carry_into d c ∷ []) []) e) tt
          by_carry true e =
              let is = ready.packed.carried c logic at e in
              subst (λ h. Has_value (Net (CarryOut h))) is.4
              (_, carry_value n d p order ready levels kept new_kept same_kept is.0 is.1 is.2 is.3 (cell_claims n d p order ready levels kept new_kept same_kept is.0 is.1 is.2.at))

pub have_values : (n : NetlistData) (d : Design) (p : PackPlan) (order : List ℕ) → IsReady n d p order → HasValues d
have_values n d p order ready = record {
  each = λ levels kept node. let v = has_value n d p order ready levels kept node in (v.0, level_there d levels kept node v.0 v.1);
}
