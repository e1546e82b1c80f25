-- A logic cell with a carry and a flip-flop holds a look-up table that the flip-flop has for itself.
use Rattle.std.proofs.Common.{◌≡◌, ℕ, true, false, Option, None, Some, inl, inr, refl, sym, ap, ◌∙◌}
use Rattle.std.specs.Prelude.{slice_get, slice_index_or}
use Rattle.std.proofs.lemmas.Option.{get_or_from_slice_get, none-some}
use Rattle.ice_base.specs.declared.number.SignalNo.{SignalNo}
use Rattle.ice_base_values.specs.Order.{At}
use Rattle.ice_net.specs.declared.kind.Reset.{Reset}
use Rattle.ice_net.specs.NetlistData.{NetlistData}
use Rattle.ice_cells.specs.declared.cell.Control.{Control}
use Rattle.ice_cells.specs.declared.cell.LogicCell.{LogicCell}
use Rattle.ice_cells.specs.declared.origin.Origin.{Origin}
use Rattle.ice_cells.specs.declared.origin.Origin.TheVariants.{Fixed, Pad, Made}
use Rattle.ice_cells.specs.declared.root.Root.TheVariants.{CellOut}
use Rattle.ice_cells.specs.declared.share.Part.{Part}
use Rattle.ice_cells.specs.declared.share.Part.TheVariants.{Table, Flop, Carry, Nothing}
use Rattle.ice_cells.specs.Homes.{part, part_by, taker, anchor, home}
use Rattle.ice_cells.specs.Origins.{input_origin, origins}
use Rattle.ice_cells.specs.Packed.{packed, flop_of, cell_by}
use Rattle.ice_cells.specs.Uses.{maker}
use Rattle.ice_pack_share.proofs.HomeLaws.{anchor_again, taker_part}
use Rattle.ice_pack_laws.specs.IsPacked.{root_at}
use Rattle.ice_pack_laws.proofs.Found.{os, bare, fs, p, same_home, IsOpened, opened_back}
use Rattle.ice_pack_laws.proofs.Parts.{cell_of_part, part_table_kind, part_flop_kind, has_table, table_home}
use Rattle.ice_pack_laws.proofs.Sources.{past}

-- a signal that a flip-flop has for itself is the output of this cell's look-up table
pub record IsTaken (n : NetlistData) (c : ℕ) : Type 0 where
  pub signal : ℕ
  pub table : ℕ
  pub flop : ℕ
  pub at : At (origins n) signal (Made table)
  pub takes : taker (fs n) table ≡ Some flop
  pub root : root_at (p n) table ≡ Some (CellOut c)

made_by : (a : ℕ) (o : Origin) → maker o ≡ Some a → o ≡ Made a
made_by a (Fixed level) e = cc e
made_by a (Pad k) e = cc e
made_by a (Made j) e = let same : j ≡ a = cc e in ap Made same

module _ (n : NetlistData) where
  -- the origin of an input that a cell makes is that of a signal
  signal_of : (a : ℕ) (input : Option SignalNo) → input_origin (os n) input ≡ Made a → (s : ℕ) × At (os n) s (Made a)
  signal_of a None e = cc e
  signal_of a (Some signal) e = by (slice_get (os n) signal.0) refl
    where
      fixed_made : Fixed false ≡ Made a → ⊥
      fixed_made f = cc f

      by : (o : Option Origin) → slice_get (os n) signal.0 ≡ o → (s : ℕ) × At (os n) s (Made a)
      by None is = absurd (fixed_made (sym (past (os n) signal.0 (Fixed false) is) ∙ e))
      by (Some o) is = (signal.0, is ∙ ap Some (sym (get_or_from_slice_get (os n) signal.0 o (Fixed false) is) ∙ e))

  -- what a flip-flop has for itself is read by it
  datum_of : (a g : ℕ) → taker (fs n) a ≡ Some g → (s : ℕ) × At (os n) s (Made a)
  datum_of a g takes =
      let flop = cell_of_part n g (Flop (Some a)) (taker_part (os n) n.cells (bare n) a g takes) (λ z. cc z) in
      let is = part_flop_kind (os n) flop.0.kind flop.0.ins flop.0.outs (Some a) flop.2 in
      signal_of a (slice_index_or flop.0.ins 1 None)
      (made_by a (input_origin (os n) (slice_index_or flop.0.ins 1 None)) (same_taken (maker (input_origin (os n) (slice_index_or flop.0.ins 1 None))) (sym (ap (λ x. part_by (os n) x flop.0.ins flop.0.outs) is.3) ∙ flop.2)))
    where
      same_taken : (o : Option ℕ) → Flop o ≡ Flop (Some a) → o ≡ Some a
      same_taken o e = cc e

  no_flop : (x : LogicCell) (flop : Control × Reset) → x.flop ≡ Some flop → x.flop ≡ None → ⊥
  no_flop x flop e f = none-some flop (sym f ∙ e)

  pub is_taken : (c : ℕ) (cell : LogicCell) (flop : Control × Reset) → At (packed n).cells c cell → cell.flop ≡ Some flop → cell.carry ≡ true → IsTaken n c
  is_taken c cell flop at e on = elim (opened_back n c cell at) [
    | inl opened ↦ of_anchor opened (part (fs n) (anchor (fs n) opened.number)) refl
    | inr constant ↦ absurd (no_flop cell flop e (ap (λ (x : LogicCell). x.flop) constant.1))
  ]
    where
      true_false : true ≡ false → ⊥
      true_false f = cc f

      table_of : (a : ℕ) → part (fs n) a ≡ Table → (home (fs n) a ≡ c) → (m : Option ℕ) → taker (fs n) a ≡ m → flop_of (p n) n.cells m ≡ Some flop → IsTaken n c
      table_of a is same None takes f = absurd (none-some flop f)
      table_of a is same (Some g) takes f =
          let lut = cell_of_part n a Table is (λ z. cc z) in
          let kind_is = part_table_kind (os n) lut.0.kind lut.0.ins lut.0.outs lut.2 in
          let signal = datum_of a g takes in
          record {
            signal = signal.0;
            table = a;
            flop = g;
            at = signal.1;
            takes = takes;
            root = (has_table n a lut.0 lut.1 kind_is).root ∙ ap (λ h. Some (CellOut h)) (table_home n a lut.0 lut.1 kind_is ∙ same);
          }

      of_anchor : (o : IsOpened n c cell) → (x : Part) → part (fs n) (anchor (fs n) o.number) ≡ x → IsTaken n c
      of_anchor o Table is =
          let a = anchor (fs n) o.number in
          table_of a is (same_home n a o.number (anchor_again (os n) n.cells (bare n) o.number) ∙ o.same) (taker (fs n) a) refl
          (sym (ap (λ (x : LogicCell). x.flop) o.is ∙ ap (λ x. (cell_by (p n) n.cells a x).flop) is) ∙ e)
      of_anchor o (Flop taken) is =
          absurd (true_false (sym on ∙ ap (λ (x : LogicCell). x.carry) o.is ∙ ap (λ x. (cell_by (p n) n.cells (anchor (fs n) o.number) x).carry) is))
      of_anchor o Carry is = absurd (no_flop cell flop e (ap (λ (x : LogicCell). x.flop) o.is ∙ ap (λ x. (cell_by (p n) n.cells (anchor (fs n) o.number) x).flop) is))
      of_anchor o Nothing is = absurd (no_flop cell flop e (ap (λ (x : LogicCell). x.flop) o.is ∙ ap (λ x. (cell_by (p n) n.cells (anchor (fs n) o.number) x).flop) is))
