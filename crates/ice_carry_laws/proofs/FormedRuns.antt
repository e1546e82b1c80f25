-- A design with runs keeps to what designs keep to, where the design without them did.
use Rattle.std.proofs.Common.{◌≡◌, ℕ, ◌<◌, Option, None, Some, List, length, inl, inr, refl, sym, ap, ◌∙◌, subst}
use Rattle.std.specs.Prelude.{slice_index_or, unwrap_or}
use Rattle.std.specs.Option.{option_map_or}
use Rattle.std.proofs.lemmas.List.{length-map}
use Rattle.std.proofs.lemmas.Option.{none-some, same_Some}
use Rattle.ice_net.specs.declared.kind.Reset.{Reset}
use Rattle.ice_net.specs.declared.kind.Reset.TheVariants.{Nothing}
use Rattle.ice_base_values.specs.Order.{At, Has}
use Rattle.ice_base_values.proofs.Members.{At_within, map_At}
use Rattle.ice_cells.specs.declared.cell.Control.{Control}
use Rattle.ice_cells.specs.declared.cell.LogicCell.{LogicCell}
use Rattle.ice_cells.specs.declared.design.Design.{Design}
use Rattle.ice_cells.specs.declared.design.DesignPad.{DesignPad}
use Rattle.ice_cells.specs.declared.root.Root.{Root}
use Rattle.ice_cells.specs.declared.root.Root.TheVariants.{PadIn, CellOut, GlobalOut, CarryOut}
use Rattle.ice_cells.specs.Formed.{IsRootOf, IsPad, IsFormed}
use Rattle.ice_cells.specs.Moves.{renamed, renamed_source, renamed_control, renamed_flop, kept_flop, become, moved_cell}
use Rattle.ice_cells.specs.Readings.{roots_read, is_read}
use Rattle.ice_cells.specs.Runs.{renamed_pad, cells_fed, fed_numbers, movers, moved_numbers, runs_of}
use Rattle.ice_carry_chains.specs.Before.{IsBeforeRuns}
use Rattle.ice_carry_chains.specs.Holding.{HoldCarries}
use Rattle.ice_carry_chains.proofs.CellsAfter.{CellAfter, Became, Moved, after_back}
use Rattle.ice_carry_chains.proofs.DesignRuns.{old_at}
use Rattle.ice_carry_chains.proofs.Holding.{hold_carries}
use Rattle.ice_carry_laws.specs.AreRuns.{taking, passing}
use Rattle.ice_carry_laws.specs.FormedBefore.{IsFormedBefore}
use Rattle.ice_carry_laws.specs.RunLaws.{ReadsWithin}
use Rattle.ice_carry_laws.proofs.AlikeRuns.{chunks_alike}
use Rattle.ice_carry_laws.proofs.MovedNumbers.{moved_to}
use Rattle.ice_carry_laws.proofs.NewCells.{NewCell, Kept, Taking, Passing, Gone, new_cell}
use Rattle.ice_carry_laws.proofs.NewReads.{NewRoot, Renamed, Left, new_root}
use Rattle.ice_carry_laws.proofs.PadReads.{reads_same}
use Rattle.ice_carry_laws.proofs.Shown.{at_within}
use Rattle.ice_carry_laws.proofs.TiedRuns.{passes_on}

module _ (d : Design) (ready : IsBeforeRuns d) (within : ReadsWithin d) (formed : IsFormedBefore d) where
  abbrev new : Design
  new = runs_of d

  abbrev moved : List (Option ℕ)
  moved = moved_numbers d

  abbrev fed : List (Option ℕ)
  fed = fed_numbers d

  -- ---- roots
  cell_stays : (c : ℕ) → c < length d.cells → c < length new.cells
  cell_stays c lt = let cell = at_within d.cells c lt in At_within new.cells c (become moved fed c cell.0) (old_at d c cell.0 cell.1)

  home_within : (c : ℕ) → c < length d.cells → (o : Option ℕ) → slice_index_or moved c None ≡ o → unwrap_or o c < length new.cells
  home_within c lt None e = cell_stays c lt
  home_within c lt (Some m) e = let there = moved_to d c m e in At_within new.cells m (moved_cell moved fed d.cells c) there.4

  renamed_within : (q : Root) → Has (roots_read d) (Some q) → ((k : ℕ) → q ≡ CarryOut k → (f : ℕ) × (slice_index_or fed k None ≡ Some f)) → IsRootOf new (renamed moved fed q)
  renamed_within (PadIn k) has passed = subst (λ n. k < n) (sym (length-map d.pads (renamed_pad moved fed))) (within.inputs k has)
  renamed_within (CellOut c) has passed = home_within c (within.outputs c has) (slice_index_or moved c None) refl
  renamed_within (GlobalOut g) has passed = subst (λ n. g < n) (sym (length-map d.globals (renamed_source moved fed))) (within.buffers g has)
  renamed_within (CarryOut k) has passed =
      let f = passed k refl in
      subst (λ (r : Root). IsRootOf new r) (sym (ap (λ o. option_map_or (λ g. CellOut g) o (CarryOut k)) f.1)) (At_within new.cells f.0 passing (passes_on d ready k f.0 f.1).at)

  roots_after : (r : Root) → Has (roots_read new) (Some r) → IsRootOf new r
  roots_after r has = by (new_root d ready r has)
    where
      by : NewRoot d r → IsRootOf new r
      by (Renamed is) = subst (λ (q : Root). IsRootOf new q) is.is (renamed_within is.root is.read is.passed)
      by (Left m cell flop at is mover e) = subst (λ (q : Root). IsRootOf new q) e (cell_stays m (At_within d.cells m cell at))

  -- ---- cells
  four_after : (c : ℕ) (y : LogicCell) → At new.cells c y → length y.ins ≡ 4
  four_after c y at = by (after_back moved fed (cells_fed d) (movers d) c y at)
    where
      by : CellAfter moved fed (cells_fed d) c y → length y.ins ≡ 4
      by (Became x there is) = sym (ap (λ (z : LogicCell). length z.ins) is)
      by (Moved m is) = sym (ap (λ (z : LogicCell). length z.ins) is)

  flop_back : (f : Option (Control × Reset)) (control : Control) (reset : Reset) → renamed_flop moved fed f ≡ Some (control, reset)
      → (old : Control) × (f ≡ Some (old, reset)) × (renamed_control moved fed old ≡ control)
  flop_back None control reset e = absurd (none-some (control, reset) e)
  flop_back (Some (old, kind)) control reset e =
      let pair : (renamed_control moved fed old, kind) ≡ (control, reset) = same_Some (renamed_control moved fed old, kind) (control, reset) e in
      (old, ap (λ (p : Control × Reset). Some (old, p.1)) pair, ap (λ (p : Control × Reset). p.0) pair)

  kept_back : (o : Option ℕ) (f : Option (Control × Reset)) (flop : Control × Reset) → kept_flop o f ≡ Some flop → f ≡ Some flop
  kept_back None f flop e = e
  kept_back (Some m) f flop e = absurd (none-some flop e)

  reset_after : (c : ℕ) (x : LogicCell) (control : Control) → At d.cells c x → (old : Control) → x.flop ≡ Some (old, Nothing) → renamed_control moved fed old ≡ control → control.reset ≡ None
  reset_after c x control at old e is = sym (ap (λ (k : Control). k.reset) is) ∙ ap (renamed_source moved fed) (formed.resets c x old at e)

  resets_after : (c : ℕ) (y : LogicCell) (control : Control) → At new.cells c y → y.flop ≡ Some (control, Nothing) → control.reset ≡ None
  resets_after c y control at e = by (new_cell d ready c y at)
    where
      by : NewCell d c y → control.reset ≡ None
      by (Kept x old) =
          let same : y ≡ become moved fed c x = same_Some y (become moved fed c x) (sym at ∙ old_at d c x old) in
          let back = flop_back (kept_flop (slice_index_or moved c None) x.flop) control Nothing (sym (ap (λ (z : LogicCell). z.flop) same) ∙ e) in
          reset_after c x control old back.0 (kept_back (slice_index_or moved c None) x.flop (back.0, Nothing) back.1) back.2
      by (Taking root takes has passed) = absurd (none-some (control, Nothing) (ap (λ (z : LogicCell). z.flop) (same_Some (taking (renamed moved fed root)) y (sym takes.at ∙ at)) ∙ e))
      by (Passing k passes has) = absurd (none-some (control, Nothing) (ap (λ (z : LogicCell). z.flop) (same_Some passing y (sym passes.at ∙ at)) ∙ e))
      by (Gone m cell flop old f mover is) =
          let back = flop_back (Some flop) control Nothing
          (sym (ap (λ o. renamed_flop moved fed (option_map_or (λ (z : LogicCell). z.flop) o None)) old ∙ ap (renamed_flop moved fed) f) ∙ ap (λ (z : LogicCell). z.flop) is ∙ e) in
          reset_after m cell control old back.0 (f ∙ back.1) back.2

  -- ---- pads
  pad_kept : (pad : DesignPad) → IsPad pad → IsPad (renamed_pad moved fed pad)
  pad_kept pad (inl (e, f, g)) = inl (e, ap (renamed_source moved fed) f, ap (renamed_source moved fed) g)
  pad_kept pad (inr (inl (e, f))) = inr (inl (e, ap (renamed_source moved fed) f))
  pad_kept pad (inr (inr e)) = inr (inr e)

  ports_after : (k : ℕ) (pad : DesignPad) → At new.pads k pad → pad.port ≡ k
  ports_after k pad at = let back = map_At (renamed_pad moved fed) d.pads k pad at in sym (ap (λ (p : DesignPad). p.port) back.2) ∙ formed.ports k back.0 back.1

  reads_after : (k : ℕ) (pad : DesignPad) → At new.pads k pad → pad.reads ≡ is_read new (PadIn k)
  reads_after k pad at =
      let back = map_At (renamed_pad moved fed) d.pads k pad at in
      sym (ap (λ (p : DesignPad). p.reads) back.2) ∙ formed.reads k back.0 back.1 ∙ sym (reads_same d ready k)

  pads_after : (k : ℕ) (pad : DesignPad) → At new.pads k pad → IsPad pad
  pads_after k pad at = let back = map_At (renamed_pad moved fed) d.pads k pad at in subst IsPad back.2 (pad_kept back.0 (formed.pads k back.0 back.1))

  pub formed_after : IsFormed new
  formed_after =
      let held : HoldCarries new = hold_carries d ready in
      record {
        four = four_after;
        roots = roots_after;
        ports = ports_after;
        reads = reads_after;
        pads = pads_after;
        once = held.once;
        carried = held.carried;
        inside = held.inside;
        carries = held.carries;
        chained = held.chained;
        resets = resets_after;
        alike = chunks_alike d ready;
        no_carries = refl;
      }
