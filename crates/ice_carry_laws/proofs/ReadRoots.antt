-- What the nodes of a design read, is of the design.
use Rattle.std.proofs.Common.{◌≡◌, ℕ, zero, suc, ◌+◌, true, false, cond, Option, None, Some, List, [], ◌∷◌, ◌++◌, map, refl, sym, ap, ◌∙◌, subst}
use Rattle.std.specs.Prelude.{slice_index_or}
use Rattle.std.specs.List.{flat_map}
use Rattle.std.specs.Option.{option_map_or}
use Rattle.std.proofs.lemmas.Option.{same_Some, none-some}
use Rattle.ice_net.specs.declared.kind.Reset.{Reset}
use Rattle.ice_base_values.specs.Order.{At, Has}
use Rattle.ice_base_values.proofs.Members.{At_map}
use Rattle.ice_base_values.proofs.ListPlaces.{Has_left, Has_right}
use Rattle.ice_cells.specs.declared.cell.Control.{Control}
use Rattle.ice_cells.specs.declared.cell.LogicCell.{LogicCell}
use Rattle.ice_cells.specs.declared.design.Design.{Design}
use Rattle.ice_cells.specs.declared.design.DesignPad.{DesignPad}
use Rattle.ice_cells.specs.declared.root.CarryIn.{CarryIn}
use Rattle.ice_cells.specs.declared.root.CarryIn.TheVariants.{Fixed, Read}
use Rattle.ice_cells.specs.declared.root.Root.{Root}
use Rattle.ice_cells.specs.declared.root.Root.TheVariants.{PadIn, CellOut, GlobalOut, CarryOut}
use Rattle.ice_cells.specs.Meaning.{input, cell_inputs, output_reads, carry_reads, node_reads}
use Rattle.ice_cells.specs.Nodes.{Node, Net, Level, net, source_node, carry_into}
use Rattle.ice_cells.specs.Readings.{carry_root, cell_roots, pad_roots, roots_read}
use Rattle.ice_carry_laws.specs.AreRuns.{IsIn}

pub Has_flat : {X Y : Type 0} (f : X → List Y) (xs : List X) (i : ℕ) (x : X) (y : Y) → At xs i x → Has (f x) y → Has (flat_map f xs) y
Has_flat f [] i x y at has = absurd (none-some x at)
Has_flat {X} f (z ∷ xs) zero x y at has = Has_left (f z) (flat_map f xs) y (subst (λ (w : X). Has (f w) y) (sym (same_Some z x at)) has)
Has_flat f (z ∷ xs) (suc i) x y at has = Has_right (f z) (flat_map f xs) y (Has_flat f xs i x y at has)

module _ (d : Design) where
  abbrev from_carries : List (Option Root)
  from_carries = map carry_root d.carries

  abbrev from_cells : List (Option Root)
  from_cells = flat_map cell_roots d.cells

  abbrev from_pads : List (Option Root)
  from_pads = flat_map pad_roots d.pads

  pub carry_read : (i c : ℕ) (root : Root) → At d.carries i (c, Read root) → Has (roots_read d) (Some root)
  carry_read i c root at =
      Has_left (from_carries ++ from_cells ++ from_pads) d.globals (Some root) (Has_left (from_carries ++ from_cells) from_pads (Some root)
      (Has_left from_carries from_cells (Some root) (i, At_map carry_root d.carries i (c, Read root) at)))

  pub cell_read : (c : ℕ) (cell : LogicCell) (root : Root) → At d.cells c cell → Has (cell_roots cell) (Some root) → Has (roots_read d) (Some root)
  cell_read c cell root at has =
      Has_left (from_carries ++ from_cells ++ from_pads) d.globals (Some root) (Has_left (from_carries ++ from_cells) from_pads (Some root)
      (Has_right from_carries from_cells (Some root) (Has_flat cell_roots d.cells c cell (Some root) at has)))

  -- the inputs of a cell are read
  pub four_read : (c : ℕ) (cell : LogicCell) → At d.cells c cell → (k : ℕ) (r : Option Root) → At (input cell 0 ∷ input cell 1 ∷ input cell 2 ∷ input cell 3 ∷ []) k (net r) → (q : Root) → r ≡ Some q
      → Has (roots_read d) (Some q)
  four_read c cell at k r there q e = among k (subst (λ (o : Option Root). At (input cell 0 ∷ input cell 1 ∷ input cell 2 ∷ input cell 3 ∷ []) k (net o)) e there)
    where
      same_net : (o : Option Root) → Some (net o) ≡ Some (Some (Net q)) → o ≡ Some q
      same_net None f = cc
      same_net (Some x) f = cc

      from : (k : ℕ) (o : Option Root) → At (cell_roots cell) k o → Some (net o) ≡ Some (Some (Net q)) → Has (roots_read d) (Some q)
      from k o there f = cell_read c cell q at (k, there ∙ ap Some (same_net o f))

      among : (k : ℕ) → At (input cell 0 ∷ input cell 1 ∷ input cell 2 ∷ input cell 3 ∷ []) k (Some (Net q)) → Has (roots_read d) (Some q)
      among zero f = from 0 (slice_index_or cell.ins 0 None) refl f
      among (suc zero) f = from 1 (slice_index_or cell.ins 1 None) refl f
      among (suc (suc zero)) f = from 2 (slice_index_or cell.ins 2 None) refl f
      among (suc (suc (suc zero))) f = from 3 (slice_index_or cell.ins 3 None) refl f
      among (suc (suc (suc (suc k)))) f = cc

  pub pad_read : (k : ℕ) (pad : DesignPad) (root : Root) → At d.pads k pad → Has (pad_roots pad) (Some root) → Has (roots_read d) (Some root)
  pad_read k pad root at has =
      Has_left (from_carries ++ from_cells ++ from_pads) d.globals (Some root) (Has_right (from_carries ++ from_cells) from_pads (Some root) (Has_flat pad_roots d.pads k pad (Some root) at has))

  pub global_read : (g : ℕ) (root : Root) → At d.globals g (Some root) → Has (roots_read d) (Some root)
  global_read g root at = Has_right (from_carries ++ from_cells ++ from_pads) d.globals (Some root) (g, at)

-- the four inputs of a cell are among what it reads
pub ins_read : (cell : LogicCell) (root : Root) → (o : Option Root) → (k : ℕ) → At (cell_roots cell) k o → o ≡ Some root → Has (cell_roots cell) (Some root)
ins_read cell root o k at e = (k, at ∙ ap Some e)

net_some : (o : Option Root) (q : Node) → net o ≡ Some q → (root : Root) × (o ≡ Some root) × (q ≡ Net root)
net_some None q e = absurd (none-some q e)
net_some (Some root) q e = (root, refl, sym (same_Some (Net root) q e))

module _ (d : Design) (unchained : (c : ℕ) (cell : LogicCell) → At d.cells c cell → cell.carry_to_in3 ≡ false)
    (into : (c : ℕ) (cell : LogicCell) → At d.cells c cell → cell.carry ≡ true → (i : ℕ) × (x : CarryIn) × At d.carries i (c, x) × (carry_into d c ≡ Some (source_node x)))
    (roots : (root : Root) → Has (roots_read d) (Some root) → IsIn d (Net root)) where
  -- an input of a cell reads a node of the design
  from_input : (c : ℕ) (cell : LogicCell) (k : ℕ) (o : Option Root) (q : Node) → At d.cells c cell → At (cell_roots cell) k o → Some (net o) ≡ Some (Some q) → IsIn d q
  from_input c cell k o q at there e =
      let got = net_some o q (same_Some (net o) (Some q) e) in
      subst (λ n. IsIn d n) (sym got.2) (roots got.0 (cell_read d c cell got.0 at (ins_read cell got.0 o k there got.1)))

  from_four : (c : ℕ) (cell : LogicCell) (q : Node) (i : ℕ) → At d.cells c cell → At (input cell 0 ∷ input cell 1 ∷ input cell 2 ∷ input cell 3 ∷ []) i (Some q) → IsIn d q
  from_four c cell q zero at e = from_input c cell 0 (slice_index_or cell.ins 0 None) q at refl e
  from_four c cell q (suc zero) at e = from_input c cell 1 (slice_index_or cell.ins 1 None) q at refl e
  from_four c cell q (suc (suc zero)) at e = from_input c cell 2 (slice_index_or cell.ins 2 None) q at refl e
  from_four c cell q (suc (suc (suc zero))) at e = from_input c cell 3 (slice_index_or cell.ins 3 None) q at refl e
  from_four c cell q (suc (suc (suc (suc i)))) at e = absurd (none-some (Some q) e)

  from_source : (i c : ℕ) (x : CarryIn) (q : Node) → At d.carries i (c, x) → source_node x ≡ q → IsIn d q
  from_source i c (Fixed level) q at e = subst (λ n. IsIn d n) e tt
  from_source i c (Read root) q at e = subst (λ n. IsIn d n) e (roots root (carry_read d i c root at))

  from_three : (c : ℕ) (cell : LogicCell) (q : Node) (i : ℕ) → At d.cells c cell → cell.carry ≡ true → At (input cell 1 ∷ input cell 2 ∷ carry_into d c ∷ []) i (Some q) → IsIn d q
  from_three c cell q zero at on e = from_input c cell 1 (slice_index_or cell.ins 1 None) q at refl e
  from_three c cell q (suc zero) at on e = from_input c cell 2 (slice_index_or cell.ins 2 None) q at refl e
  from_three c cell q (suc (suc zero)) at on e =
      let got = into c cell at on in
      from_source got.0 c got.1 q got.2 (same_Some (source_node got.1) q (sym got.3 ∙ same_Some (carry_into d c) (Some q) e))
  from_three c cell q (suc (suc (suc i))) at on e = absurd (none-some (Some q) e)

  pub closed : (p q : Node) → IsIn d p → Has (node_reads d p) (Some q) → IsIn d q
  closed (Net (PadIn k)) q is has = absurd (none-some (Some q) has.1)
  closed (Level level) q is has = absurd (none-some (Some q) has.1)
  closed (Net (CellOut c)) q (cell, here) (i, at) =
      by cell.flop (subst (λ (ns : List (Option Node)). At ns i (Some q)) (ap (λ o. option_map_or (λ (x : LogicCell). output_reads x.flop (cell_inputs d c x)) o []) here) at)
    where
      by : (f : Option (Control × Reset)) → At (output_reads f (cell_inputs d c cell)) i (Some q) → IsIn d q
      by (Some flop) e = absurd (none-some (Some q) e)
      by None e =
          from_four c cell q i here
          (subst (λ (ns : List (Option Node)). At ns i (Some q)) (ap (λ b. input cell 0 ∷ input cell 1 ∷ input cell 2 ∷ cond b (carry_into d c) (input cell 3) ∷ []) (unchained c cell here)) e)
  closed (Net (GlobalOut g)) q (root, here) (i, at) =
      by root here i (subst (λ (ns : List (Option Node)). At ns i (Some q)) (ap (λ o. option_map_or (λ r. net r ∷ []) o []) here) at)
    where
      by : (o : Option Root) → At d.globals g o → (i : ℕ) → At (net o ∷ []) i (Some q) → IsIn d q
      by None there zero e = absurd (none-some q (same_Some None (Some q) e))
      by (Some r) there zero e = subst (λ n. IsIn d n) (same_Some (Net r) q (same_Some (Some (Net r)) (Some q) e)) (roots r (global_read d g r there))
      by o there (suc i) e = absurd (none-some (Some q) e)
  closed (Net (CarryOut c)) q (cell, here, on) (i, at) =
      from_three c cell q i here on
      (subst (λ (ns : List (Option Node)). At ns i (Some q)) (ap (λ o. option_map_or (carry_reads d c) o []) here ∙ ap (λ b. cond b (input cell 1 ∷ input cell 2 ∷ carry_into d c ∷ []) []) on) at)
