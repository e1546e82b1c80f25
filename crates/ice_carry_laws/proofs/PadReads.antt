-- A pad is read by a design with runs where it was read without them.
use Rattle.std.proofs.Common.{◌≡◌, ◌⊎◌, ℕ, zero, suc, ◌+◌, true, Option, None, Some, List, ◌++◌, length, map, inl, inr, refl, sym, ap, ◌∙◌, subst}
use Rattle.std.specs.Prelude.{slice_index_or}
use Rattle.std.specs.List.{flat_map, list_any}
use Rattle.std.specs.Option.{option_map_or}
use Rattle.std.proofs.lemmas.Bool.{eqb-true, eq-eqb}
use Rattle.std.proofs.lemmas.Option.{none-some, same_Some}
use Rattle.ice_base.proofs.Booleans.{both_true}
use Rattle.ice_net.specs.declared.kind.Reset.{Reset}
use Rattle.ice_base_values.specs.Order.{At, Has}
use Rattle.ice_base_values.proofs.Members.{At_parts, At_map, map_At, any_Has, Has_any}
use Rattle.ice_cells.specs.declared.cell.Control.{Control}
use Rattle.ice_cells.specs.declared.cell.LogicCell.{LogicCell}
use Rattle.ice_cells.specs.declared.design.Design.{Design}
use Rattle.ice_cells.specs.declared.design.DesignPad.{DesignPad}
use Rattle.ice_cells.specs.declared.root.CarryIn.{CarryIn}
use Rattle.ice_cells.specs.declared.root.CarryIn.TheVariants.{Fixed, Read}
use Rattle.ice_cells.specs.declared.root.Root.{Root}
use Rattle.ice_cells.specs.declared.root.Root.TheVariants.{PadIn, CellOut, GlobalOut, CarryOut}
use Rattle.ice_cells.specs.Moves.{renamed, renamed_source, renamed_flop, kept_flop, last_input, become, moved_cell}
use Rattle.ice_cells.specs.Readings.{carry_root, control_roots, cell_roots, pad_roots, roots_read, is_read}
use Rattle.ice_cells.specs.Runs.{renamed_pad, fed_numbers, moved_numbers, runs_of}
use Rattle.ice_cells.specs.Same.{same_source}
use Rattle.ice_carry_chains.specs.Before.{IsBeforeRuns}
use Rattle.ice_carry_chains.proofs.DesignRuns.{old_at}
use Rattle.ice_carry_chains.proofs.RunLists.{flat_back}
use Rattle.ice_carry_laws.specs.AreRuns.{taking, CarriesIn}
use Rattle.ice_carry_laws.proofs.MovedNumbers.{moved_to}
use Rattle.ice_carry_laws.proofs.NewReads.{NewRoot, Renamed, Left, new_root}
use Rattle.ice_carry_laws.proofs.ReadRoots.{cell_read, pad_read, global_read}
use Rattle.ice_carry_laws.proofs.TiedRuns.{into_carry}

same_pad : (k : ℕ) (x : Option Root) → same_source (Some (PadIn k)) x ≡ true → x ≡ Some (PadIn k)
same_pad k None e = cc
same_pad k (Some (PadIn j)) e = ap (λ i. Some (PadIn i)) (sym (eqb-true k j e))
same_pad k (Some (CellOut j)) e = cc
same_pad k (Some (GlobalOut j)) e = cc
same_pad k (Some (CarryOut j)) e = cc

control_on : (moved fed : List (Option ℕ)) (flop : Control × Reset) (i k : ℕ) → At (control_roots (Some flop)) i (Some (PadIn k)) → At (control_roots (renamed_flop moved fed (Some flop))) i (Some (PadIn k))
control_on moved fed flop zero k at = ap (λ o. Some (renamed_source moved fed o)) (same_Some flop.0.clock (Some (PadIn k)) at)
control_on moved fed flop (suc zero) k at = ap (λ o. Some (renamed_source moved fed o)) (same_Some flop.0.enable (Some (PadIn k)) at)
control_on moved fed flop (suc (suc zero)) k at = ap (λ o. Some (renamed_source moved fed o)) (same_Some flop.0.reset (Some (PadIn k)) at)
control_on moved fed flop (suc (suc (suc i))) k at = absurd (none-some (Some (PadIn k)) at)

module _ (d : Design) (ready : IsBeforeRuns d) where
  abbrev new : Design
  new = runs_of d

  abbrev moved : List (Option ℕ)
  moved = moved_numbers d

  abbrev fed : List (Option ℕ)
  fed = fed_numbers d

  -- ---- what is read afterwards, was read
  pad_back : (k : ℕ) (q : Root) → renamed moved fed q ≡ PadIn k → ((j : ℕ) → q ≡ CarryOut j → (f : ℕ) × (slice_index_or fed j None ≡ Some f)) → q ≡ PadIn k
  pad_back k (PadIn j) e passed = e
  pad_back k (CellOut j) e passed = cc
  pad_back k (GlobalOut j) e passed = cc
  pad_back k (CarryOut j) e passed =
      let f = passed j refl in
      let bad : CellOut f.0 ≡ PadIn k = sym (ap (λ o. option_map_or (λ g. CellOut g) o (CarryOut j)) f.1) ∙ e in
      cc bad

  was_read : (k : ℕ) → Has (roots_read new) (Some (PadIn k)) → Has (roots_read d) (Some (PadIn k))
  was_read k has = by (new_root d ready (PadIn k) has)
    where
      by : NewRoot d (PadIn k) → Has (roots_read d) (Some (PadIn k))
      by (Renamed is) = subst (λ (q : Root). Has (roots_read d) (Some q)) (pad_back k is.root is.is is.passed) is.read
      by (Left m cell flop at is mover e) = cc e

  -- ---- what was read, is read afterwards
  carry_on : (c : ℕ) (into : CarryIn) (i k : ℕ) → At d.carries i (c, into) → carry_root (c, into) ≡ Some (PadIn k) → Has (roots_read new) (Some (PadIn k))
  carry_on c (Fixed level) i k at e = absurd (none-some (PadIn k) e)
  carry_on c (Read root) i k at e = by (subst (λ (q : Root). CarriesIn new moved fed c (Read q)) (same_Some root (PadIn k) e) (into_carry d ready c (record { into = Read root; place = i; at = at })))
    where
      by : CarriesIn new moved fed c (Read (PadIn k)) → Has (roots_read new) (Some (PadIn k))
      by (inl (j, f, is)) = cc f
      by (inr (f, is, takes)) = cell_read new f (taking (PadIn k)) (PadIn k) takes.at (1, refl)

  cell_on : (c : ℕ) (x : LogicCell) (i k : ℕ) → At d.cells c x → At (cell_roots x) i (Some (PadIn k)) → Has (roots_read new) (Some (PadIn k))
  cell_on c x zero k at e = cell_read new c (become moved fed c x) (PadIn k) (old_at d c x at) (0, ap (λ o. Some (renamed_source moved fed o)) (same_Some (slice_index_or x.ins 0 None) (Some (PadIn k)) e))
  cell_on c x (suc zero) k at e =
      cell_read new c (become moved fed c x) (PadIn k) (old_at d c x at) (1, ap (λ o. Some (renamed_source moved fed o)) (same_Some (slice_index_or x.ins 1 None) (Some (PadIn k)) e))
  cell_on c x (suc (suc zero)) k at e =
      cell_read new c (become moved fed c x) (PadIn k) (old_at d c x at) (2, ap (λ o. Some (renamed_source moved fed o)) (same_Some (slice_index_or x.ins 2 None) (Some (PadIn k)) e))
  cell_on c x (suc (suc (suc zero))) k at e =
      cell_read new c (become moved fed c x) (PadIn k) (old_at d c x at) (3, ap (λ o. Some (last_input moved fed o)) (same_Some (slice_index_or x.ins 3 None) (Some (PadIn k)) e))
  cell_on c x (suc (suc (suc (suc i)))) k at e = by x.flop refl
    where
      whither : (flop : Control × Reset) → x.flop ≡ Some flop → (o : Option ℕ) → slice_index_or moved c None ≡ o → Has (roots_read new) (Some (PadIn k))
      whither flop f None mo =
          let here : At (control_roots (renamed_flop moved fed (Some flop))) i (Some (PadIn k))
          = control_on moved fed flop i k (subst (λ (g : Option (Control × Reset)). At (control_roots g) i (Some (PadIn k))) f e) in
          let stays : renamed_flop moved fed (kept_flop (slice_index_or moved c None) x.flop) ≡ renamed_flop moved fed (Some flop) = λ j. renamed_flop moved fed (kept_flop (mo j) (f j)) in
          cell_read new c (become moved fed c x) (PadIn k) (old_at d c x at)
          (suc (suc (suc (suc i))), subst (λ (g : Option (Control × Reset)). At (control_roots g) i (Some (PadIn k))) (sym stays) here)
      whither flop f (Some m) mo =
          let there = moved_to d c m mo in
          let here : At (control_roots (renamed_flop moved fed (Some flop))) i (Some (PadIn k))
          = control_on moved fed flop i k (subst (λ (g : Option (Control × Reset)). At (control_roots g) i (Some (PadIn k))) f e) in
          let goes : (moved_cell moved fed d.cells c).flop ≡ renamed_flop moved fed (Some flop)
          = ap (λ o. renamed_flop moved fed (option_map_or (λ (z : LogicCell). z.flop) o None)) at ∙ ap (renamed_flop moved fed) f in
          cell_read new m (moved_cell moved fed d.cells c) (PadIn k) there.4
          (suc (suc (suc (suc i))), subst (λ (g : Option (Control × Reset)). At (control_roots g) i (Some (PadIn k))) (sym goes) here)

      by : (f : Option (Control × Reset)) → x.flop ≡ f → Has (roots_read new) (Some (PadIn k))
      by None f = absurd (none-some (Some (PadIn k)) (subst (λ (g : Option (Control × Reset)). At (control_roots g) i (Some (PadIn k))) f e))
      by (Some flop) f = whither flop f (slice_index_or moved c None) refl

  pad_on : (j : ℕ) (pad : DesignPad) (i k : ℕ) → At d.pads j pad → At (pad_roots pad) i (Some (PadIn k)) → Has (roots_read new) (Some (PadIn k))
  pad_on j pad zero k at e =
      pad_read new j (renamed_pad moved fed pad) (PadIn k) (At_map (renamed_pad moved fed) d.pads j pad at) (0, ap (λ o. Some (renamed_source moved fed o)) (same_Some pad.drive (Some (PadIn k)) e))
  pad_on j pad (suc zero) k at e =
      pad_read new j (renamed_pad moved fed pad) (PadIn k) (At_map (renamed_pad moved fed) d.pads j pad at) (1, ap (λ o. Some (renamed_source moved fed o)) (same_Some pad.enable (Some (PadIn k)) e))
  pad_on j pad (suc (suc i)) k at e = absurd (none-some (Some (PadIn k)) e)

  stays_read : (k : ℕ) → Has (roots_read d) (Some (PadIn k)) → Has (roots_read new) (Some (PadIn k))
  stays_read k (i, at) = by (At_parts (map carry_root d.carries ++ flat_map cell_roots d.cells ++ flat_map pad_roots d.pads) d.globals i (Some (PadIn k)) at)
    where
      one : At (map carry_root d.carries) i (Some (PadIn k)) ⊎ ((j : ℕ) × (i ≡ length (map carry_root d.carries) + j) × At (flat_map cell_roots d.cells) j (Some (PadIn k))) → Has (roots_read new) (Some (PadIn k))
      one (inl here) = (let back = map_At carry_root d.carries i (Some (PadIn k)) here in carry_on (back.0).0 (back.0).1 i k back.1 back.2)
      one (inr (j, e, there)) = (let back = flat_back cell_roots d.cells (Some (PadIn k)) (j, there) in cell_on back.row back.item back.place k back.at back.inside)

      two : At (map carry_root d.carries ++ flat_map cell_roots d.cells) i (Some (PadIn k))
          ⊎ ((j : ℕ) × (i ≡ length (map carry_root d.carries ++ flat_map cell_roots d.cells) + j) × At (flat_map pad_roots d.pads) j (Some (PadIn k))) → Has (roots_read new) (Some (PadIn k))
      two (inl here) = one (At_parts (map carry_root d.carries) (flat_map cell_roots d.cells) i (Some (PadIn k)) here)
      two (inr (j, e, there)) = (let back = flat_back pad_roots d.pads (Some (PadIn k)) (j, there) in pad_on back.row back.item back.place k back.at back.inside)

      by : At (map carry_root d.carries ++ flat_map cell_roots d.cells ++ flat_map pad_roots d.pads) i (Some (PadIn k))
          ⊎ ((j : ℕ) × (i ≡ length (map carry_root d.carries ++ flat_map cell_roots d.cells ++ flat_map pad_roots d.pads) + j) × At d.globals j (Some (PadIn k))) → Has (roots_read new) (Some (PadIn k))
      by (inl here) = two (At_parts (map carry_root d.carries ++ flat_map cell_roots d.cells) (flat_map pad_roots d.pads) i (Some (PadIn k)) here)
      by (inr (j, e, there)) = global_read new j (PadIn k) (At_map (renamed_source moved fed) d.globals j (Some (PadIn k)) there)

  pub reads_same : (k : ℕ) → is_read new (PadIn k) ≡ is_read d (PadIn k)
  reads_same k = both_true (is_read new (PadIn k)) (is_read d (PadIn k)) (λ e. on (roots_read d) (was_read k (from (roots_read new) e))) (λ e. on (roots_read new) (stays_read k (from (roots_read d) e)))
    where
      from : (xs : List (Option Root)) → list_any (same_source (Some (PadIn k))) xs ≡ true → Has xs (Some (PadIn k))
      from xs e = let got = any_Has (same_source (Some (PadIn k))) xs e in subst (λ (x : Option Root). Has xs x) (same_pad k got.0 got.2) got.1

      on : (xs : List (Option Root)) → Has xs (Some (PadIn k)) → list_any (same_source (Some (PadIn k))) xs ≡ true
      on xs has = Has_any (same_source (Some (PadIn k))) xs (Some (PadIn k)) has.0 has.1 (eq-eqb k k refl)
