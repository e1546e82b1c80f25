-- What a design with runs reads: what the design without them read, renamed; and the cells that flip-flops left.
use Rattle.std.proofs.Common.{◌≡◌, ◌⊎◌, ℕ, zero, suc, ◌+◌, Bool, true, false, not, cond, Option, None, Some, List, [], ◌∷◌, ◌++◌, length, map, inl, inr, refl, sym, ap, ◌∙◌, subst, arith}
use Rattle.std.specs.Prelude.{slice_index_or, is_some}
use Rattle.std.specs.List.{flat_map}
use Rattle.std.specs.Option.{option_map_or}
use Rattle.std.proofs.lemmas.Option.{none-some, same_Some}
use Rattle.ice_net.specs.declared.kind.Reset.{Reset}
use Rattle.ice_base_values.specs.Order.{At, Has}
use Rattle.ice_base_values.proofs.Members.{At_parts, At_map, map_At}
use Rattle.ice_base_values.proofs.ListPlaces.{Has_left, Has_right}
use Rattle.ice_cells.specs.declared.cell.Control.{Control}
use Rattle.ice_cells.specs.declared.cell.LogicCell.{LogicCell}
use Rattle.ice_cells.specs.declared.design.Design.{Design}
use Rattle.ice_cells.specs.declared.design.DesignPad.{DesignPad}
use Rattle.ice_cells.specs.declared.follow.Reader.TheVariants.{Else}
use Rattle.ice_cells.specs.declared.root.Root.{Root}
use Rattle.ice_cells.specs.declared.root.Root.TheVariants.{CellOut, CarryOut}
use Rattle.ice_cells.specs.Moves.{renamed, renamed_source, renamed_flop, kept_flop, is_chained, last_input, become, moved_cell}
use Rattle.ice_cells.specs.Readings.{Reading, plain, carry_reading, control_readings, cell_readings, cells_readings, pad_readings, readings, control_roots, cell_roots, pad_roots, roots_read}
use Rattle.ice_cells.specs.Runs.{renamed_pad, fed_numbers, moved_numbers, movers, runs_of}
use Rattle.ice_carry_chains.specs.Before.{IsBeforeRuns}
use Rattle.ice_carry_chains.proofs.DesignRuns.{old_at}
use Rattle.ice_carry_chains.proofs.ReadsFed.{plain_fed}
use Rattle.ice_carry_chains.proofs.RunLists.{flat_back}
use Rattle.ice_carry_laws.specs.AreRuns.{taking, passing}
use Rattle.ice_carry_laws.proofs.NewCells.{NewCell, Kept, Taking, Passing, Gone, new_cell}
use Rattle.ice_carry_laws.proofs.ReadRoots.{Has_flat, cell_read, pad_read, global_read}

-- a root is what another is renamed to: one that was read, and a carry only where a cell passes it on
pub record IsRenamed (d : Design) (r : Root) : Type 0 where
  pub root : Root
  pub read : Has (roots_read d) (Some root)
  pub is : renamed (moved_numbers d) (fed_numbers d) root ≡ r
  pub passed : (k : ℕ) → root ≡ CarryOut k → (f : ℕ) × (slice_index_or (fed_numbers d) k None ≡ Some f)

pub data NewRoot (d : Design) (r : Root) : Type 0 where
  Renamed : IsRenamed d r → NewRoot d r
  Left : (m : ℕ) (cell : LogicCell) (flop : Control × Reset) → At d.cells m cell → cell.flop ≡ Some flop → Has (movers d) m → CellOut m ≡ r → NewRoot d r

-- ---- readings of the design
next_number : (c j : ℕ) → c + 1 + j ≡ c + suc j
next_number c j = omega arith

first_number : (c : ℕ) → c ≡ c + 0
first_number c = omega arith

zero_first : (c : ℕ) → 0 + c ≡ c
zero_first c = omega arith

cells_reading : (c : ℕ) (cells : List LogicCell) (j : ℕ) (cell : LogicCell) (x : Reading) → At cells j cell → Has (cell_readings (c + j) cell) x → Has (cells_readings c cells) x
cells_reading c [] j cell x at has = absurd (none-some cell at)
cells_reading c (y ∷ cells) zero cell x at has =
    Has_left (cell_readings c y) (cells_readings (c + 1) cells) x
    (subst (λ (z : LogicCell). Has (cell_readings c z) x) (sym (same_Some y cell at)) (subst (λ n. Has (cell_readings n cell) x) (sym (first_number c)) has))
cells_reading c (y ∷ cells) (suc j) cell x at has =
    Has_right (cell_readings c y) (cells_readings (c + 1) cells) x (cells_reading (c + 1) cells j cell x at (subst (λ n. Has (cell_readings n cell) x) (sym (next_number c j)) has))

module _ (d : Design) where
  abbrev carries_part : List Reading
  carries_part = map carry_reading d.carries

  abbrev cells_part : List Reading
  cells_part = cells_readings 0 d.cells

  abbrev pads_part : List Reading
  pads_part = flat_map pad_readings d.pads

  cell_reading : (c : ℕ) (cell : LogicCell) (x : Reading) → At d.cells c cell → Has (cell_readings c cell) x → Has (readings d) x
  cell_reading c cell x at has =
      Has_left (carries_part ++ cells_part ++ pads_part) (map plain d.globals) x
      (Has_left (carries_part ++ cells_part) pads_part x
      (Has_right carries_part cells_part x (cells_reading 0 d.cells c cell x at (subst (λ n. Has (cell_readings n cell) x) (sym (zero_first c)) has))))

  pad_reading : (k : ℕ) (pad : DesignPad) (x : Reading) → At d.pads k pad → Has (pad_readings pad) x → Has (readings d) x
  pad_reading k pad x at has =
      Has_left (carries_part ++ cells_part ++ pads_part) (map plain d.globals) x (Has_right (carries_part ++ cells_part) pads_part x (Has_flat pad_readings d.pads k pad x at has))

  global_reading : (g : ℕ) (root : Option Root) → At d.globals g root → Has (readings d) (plain root)
  global_reading g root at = Has_right (carries_part ++ cells_part ++ pads_part) (map plain d.globals) (plain root) (g, At_map plain d.globals g root at)

-- the sources of a flip-flop's control set, renamed
control_back : (moved fed : List (Option ℕ)) (flop : Control × Reset) (i : ℕ) (r : Root) → At (control_roots (renamed_flop moved fed (Some flop))) i (Some r)
    → (o : Option Root) × At (control_roots (Some flop)) i o × (renamed_source moved fed o ≡ Some r)
control_back moved fed flop zero r at = (flop.0.clock, refl, same_Some (renamed_source moved fed flop.0.clock) (Some r) at)
control_back moved fed flop (suc zero) r at = (flop.0.enable, refl, same_Some (renamed_source moved fed flop.0.enable) (Some r) at)
control_back moved fed flop (suc (suc zero)) r at = (flop.0.reset, refl, same_Some (renamed_source moved fed flop.0.reset) (Some r) at)
control_back moved fed flop (suc (suc (suc i))) r at = absurd (none-some (Some r) at)

control_plain : (f : Option (Control × Reset)) (i : ℕ) (o : Option Root) → At (control_roots f) i o → At (control_readings f) i (plain o)
control_plain None i o at = absurd (none-some o at)
control_plain (Some flop) zero o at = ap (λ x. Some (plain x)) (same_Some flop.0.clock o at)
control_plain (Some flop) (suc zero) o at = ap (λ x. Some (plain x)) (same_Some flop.0.enable o at)
control_plain (Some flop) (suc (suc zero)) o at = ap (λ x. Some (plain x)) (same_Some flop.0.reset o at)
control_plain (Some flop) (suc (suc (suc i))) o at = absurd (none-some o at)

module _ (d : Design) (ready : IsBeforeRuns d) where
  abbrev new : Design
  new = runs_of d

  abbrev moved : List (Option ℕ)
  moved = moved_numbers d

  abbrev fed : List (Option ℕ)
  fed = fed_numbers d

  abbrev Passed : Option Root → Type 0
  Passed o = (k : ℕ) → o ≡ Some (CarryOut k) → (f : ℕ) × (slice_index_or fed k None ≡ Some f)

  from_renamed : (o : Option Root) (r : Root) → ((q : Root) → o ≡ Some q → Has (roots_read d) (Some q)) → Passed o → renamed_source moved fed o ≡ Some r → NewRoot d r
  from_renamed None r reads passed e = absurd (none-some r e)
  from_renamed (Some q) r reads passed e = Renamed (record { root = q; read = reads q refl; is = same_Some (renamed moved fed q) r e; passed = λ k f. passed k (ap Some f) })

  -- what is read in the plain way is passed on, where it is a carry
  plain_passed : (o : Option Root) → Has (readings d) (plain o) → Passed o
  plain_passed o has k e = plain_fed d ready k (subst (λ (x : Option Root). Has (readings d) (x, Else)) e has)

  cell_reads : (c : ℕ) (x : LogicCell) → At d.cells c x → (k : ℕ) (o : Option Root) → At (cell_roots x) k o → (q : Root) → o ≡ Some q → Has (roots_read d) (Some q)
  cell_reads c x at k o there q e = cell_read d c x q at (k, there ∙ ap Some e)

  -- a last input that does not take the carry from below
  last_passed : (o : Option Root) → is_chained fed o ≡ false → Passed o
  last_passed o e k f = by (slice_index_or fed k None) refl
    where
      by : (n : Option ℕ) → slice_index_or fed k None ≡ n → (g : ℕ) × (slice_index_or fed k None ≡ Some g)
      by None g = (let bad : is_chained fed o ≡ true = ap (is_chained fed) f ∙ ap (λ n. not (is_some n)) g in cc (bad, e))
      by (Some n) g = (n, g)

  control_new : (c : ℕ) (x : LogicCell) (flop : Control × Reset) → At d.cells c x → x.flop ≡ Some flop → (i : ℕ) (r : Root) → At (control_roots (renamed_flop moved fed (Some flop))) i (Some r) → NewRoot d r
  control_new c x flop at e i r there =
      let back = control_back moved fed flop i r there in
      let here : At (control_roots x.flop) i back.0 = subst (λ (f : Option (Control × Reset)). At (control_roots f) i back.0) (sym e) back.1 in
      from_renamed back.0 r (cell_reads c x at (suc (suc (suc (suc i)))) back.0 here)
      (plain_passed back.0 (cell_reading d c x (plain back.0) at (suc (suc (suc (suc i))), control_plain x.flop i back.0 here))) back.2

  kept_control : (c : ℕ) (x : LogicCell) → At d.cells c x → (f : Option (Control × Reset)) → x.flop ≡ f → (o : Option ℕ) (i : ℕ) (r : Root)
      → At (control_roots (renamed_flop moved fed (kept_flop o f))) i (Some r) → NewRoot d r
  kept_control c x at f e (Some m) i r there = absurd (none-some (Some r) there)
  kept_control c x at None e None i r there = absurd (none-some (Some r) there)
  kept_control c x at (Some flop) e None i r there = control_new c x flop at e i r there

  kept_last : (c : ℕ) (x : LogicCell) → At d.cells c x → (o : Option Root) → slice_index_or x.ins 3 None ≡ o → (b : Bool) → is_chained fed o ≡ b → (r : Root)
      → cond b None (renamed_source moved fed o) ≡ Some r → NewRoot d r
  kept_last c x at o e true f r g = absurd (none-some r g)
  kept_last c x at o e false f r g = from_renamed o r (cell_reads c x at 3 o (ap Some e)) (last_passed o f) g

  kept_new : (c : ℕ) (x : LogicCell) → At d.cells c x → (i : ℕ) (r : Root) → At (cell_roots (become moved fed c x)) i (Some r) → NewRoot d r
  kept_new c x at zero r there =
      from_renamed (slice_index_or x.ins 0 None) r (cell_reads c x at 0 (slice_index_or x.ins 0 None) refl)
      (plain_passed (slice_index_or x.ins 0 None) (cell_reading d c x (plain (slice_index_or x.ins 0 None)) at (0, refl))) (same_Some (renamed_source moved fed (slice_index_or x.ins 0 None)) (Some r) there)
  kept_new c x at (suc zero) r there =
      from_renamed (slice_index_or x.ins 1 None) r (cell_reads c x at 1 (slice_index_or x.ins 1 None) refl)
      (plain_passed (slice_index_or x.ins 1 None) (cell_reading d c x (plain (slice_index_or x.ins 1 None)) at (1, refl))) (same_Some (renamed_source moved fed (slice_index_or x.ins 1 None)) (Some r) there)
  kept_new c x at (suc (suc zero)) r there =
      from_renamed (slice_index_or x.ins 2 None) r (cell_reads c x at 2 (slice_index_or x.ins 2 None) refl)
      (plain_passed (slice_index_or x.ins 2 None) (cell_reading d c x (plain (slice_index_or x.ins 2 None)) at (2, refl))) (same_Some (renamed_source moved fed (slice_index_or x.ins 2 None)) (Some r) there)
  kept_new c x at (suc (suc (suc zero))) r there =
      kept_last c x at (slice_index_or x.ins 3 None) refl (is_chained fed (slice_index_or x.ins 3 None)) refl r (same_Some (last_input moved fed (slice_index_or x.ins 3 None)) (Some r) there)
  kept_new c x at (suc (suc (suc (suc i)))) r there = kept_control c x at x.flop refl (slice_index_or moved c None) i r there

  taking_new : (root : Root) → Has (roots_read d) (Some root) → ((k : ℕ) → root ≡ CarryOut k → (f : ℕ) × (slice_index_or fed k None ≡ Some f)) → (i : ℕ) (r : Root)
      → At (cell_roots (taking (renamed moved fed root))) i (Some r) → NewRoot d r
  taking_new root has passed zero r there = absurd (none-some r (same_Some None (Some r) there))
  taking_new root has passed (suc zero) r there =
      Renamed (record { root = root; read = has; is = same_Some (renamed moved fed root) r (same_Some (Some (renamed moved fed root)) (Some r) there); passed = passed })
  taking_new root has passed (suc (suc zero)) r there = absurd (none-some r (same_Some None (Some r) there))
  taking_new root has passed (suc (suc (suc zero))) r there = absurd (none-some r (same_Some None (Some r) there))
  taking_new root has passed (suc (suc (suc (suc i)))) r there = absurd (none-some (Some r) there)

  passing_new : (i : ℕ) (r : Root) → At (cell_roots passing) i (Some r) → NewRoot d r
  passing_new zero r there = absurd (none-some r (same_Some None (Some r) there))
  passing_new (suc zero) r there = absurd (none-some r (same_Some None (Some r) there))
  passing_new (suc (suc zero)) r there = absurd (none-some r (same_Some None (Some r) there))
  passing_new (suc (suc (suc zero))) r there = absurd (none-some r (same_Some None (Some r) there))
  passing_new (suc (suc (suc (suc i)))) r there = absurd (none-some (Some r) there)

  gone_new : (m : ℕ) (cell : LogicCell) (flop : Control × Reset) → At d.cells m cell → cell.flop ≡ Some flop → Has (movers d) m → (i : ℕ) (r : Root) → At (cell_roots (moved_cell moved fed d.cells m)) i (Some r) → NewRoot d r
  gone_new m cell flop at e mover zero r there = Left m cell flop at e mover (same_Some (CellOut m) r (same_Some (Some (CellOut m)) (Some r) there))
  gone_new m cell flop at e mover (suc zero) r there = absurd (none-some r (same_Some None (Some r) there))
  gone_new m cell flop at e mover (suc (suc zero)) r there = absurd (none-some r (same_Some None (Some r) there))
  gone_new m cell flop at e mover (suc (suc (suc zero))) r there = absurd (none-some r (same_Some None (Some r) there))
  gone_new m cell flop at e mover (suc (suc (suc (suc i)))) r there =
      control_new m cell flop at e i r
      (subst (λ (f : Option (Control × Reset)). At (control_roots (renamed_flop moved fed f)) i (Some r)) (ap (λ o. option_map_or (λ (x : LogicCell). x.flop) o None) at ∙ e) there)

  cell_new : (c : ℕ) (y : LogicCell) → At new.cells c y → NewCell d c y → (i : ℕ) (r : Root) → At (cell_roots y) i (Some r) → NewRoot d r
  cell_new c y at (Kept x old) i r there =
      kept_new c x old i r (subst (λ (z : LogicCell). At (cell_roots z) i (Some r)) (same_Some y (become moved fed c x) (sym at ∙ old_at d c x old)) there)
  cell_new c y at (Taking root takes has passed) i r there =
      taking_new root has passed i r (subst (λ (z : LogicCell). At (cell_roots z) i (Some r)) (same_Some y (taking (renamed moved fed root)) (sym at ∙ takes.at)) there)
  cell_new c y at (Passing k passes has) i r there = passing_new i r (subst (λ (z : LogicCell). At (cell_roots z) i (Some r)) (same_Some y passing (sym at ∙ passes.at)) there)
  cell_new c y at (Gone m cell flop old e mover is) i r there = gone_new m cell flop old e mover i r (subst (λ (z : LogicCell). At (cell_roots z) i (Some r)) (sym is) there)

  pad_new : (k : ℕ) (pad : DesignPad) → At d.pads k pad → (i : ℕ) (r : Root) → At (pad_roots (renamed_pad moved fed pad)) i (Some r) → NewRoot d r
  pad_new k pad at zero r there =
      from_renamed pad.drive r (λ q e. pad_read d k pad q at (0, ap Some e)) (plain_passed pad.drive (pad_reading d k pad (plain pad.drive) at (0, refl))) (same_Some (renamed_source moved fed pad.drive) (Some r) there)
  pad_new k pad at (suc zero) r there =
      from_renamed pad.enable r (λ q e. pad_read d k pad q at (1, ap Some e)) (plain_passed pad.enable (pad_reading d k pad (plain pad.enable) at (1, refl))) (same_Some (renamed_source moved fed pad.enable) (Some r) there)
  pad_new k pad at (suc (suc i)) r there = absurd (none-some (Some r) there)

  -- each root that is read afterwards
  pub new_root : (r : Root) → Has (roots_read new) (Some r) → NewRoot d r
  new_root r (i, at) = by (At_parts (flat_map cell_roots new.cells ++ flat_map pad_roots new.pads) new.globals i (Some r) at)
    where
      from_cells : Has (flat_map cell_roots new.cells) (Some r) → NewRoot d r
      from_cells has =
          let one = flat_back cell_roots new.cells (Some r) has in
          cell_new one.row one.item one.at (new_cell d ready one.row one.item one.at) one.place r one.inside

      from_pads : Has (flat_map pad_roots new.pads) (Some r) → NewRoot d r
      from_pads has =
          let one = flat_back pad_roots new.pads (Some r) has in
          let back = map_At (renamed_pad moved fed) d.pads one.row one.item one.at in
          pad_new one.row back.0 back.1 one.place r (subst (λ (p : DesignPad). At (pad_roots p) one.place (Some r)) (sym back.2) one.inside)

      from_globals : (j : ℕ) → At new.globals j (Some r) → NewRoot d r
      from_globals j there =
          let back = map_At (renamed_source moved fed) d.globals j (Some r) there in
          from_renamed back.0 r (λ q e. global_read d j q (back.1 ∙ ap Some e)) (plain_passed back.0 (global_reading d j back.0 back.1)) back.2

      two : At (flat_map cell_roots new.cells) i (Some r) ⊎ ((j : ℕ) × (i ≡ length (flat_map cell_roots new.cells) + j) × At (flat_map pad_roots new.pads) j (Some r)) → NewRoot d r
      two (inl here) = from_cells (i, here)
      two (inr (j, e, there)) = from_pads (j, there)

      by : At (flat_map cell_roots new.cells ++ flat_map pad_roots new.pads) i (Some r)
          ⊎ ((j : ℕ) × (i ≡ length (flat_map cell_roots new.cells ++ flat_map pad_roots new.pads) + j) × At new.globals j (Some r)) → NewRoot d r
      by (inl here) = two (At_parts (flat_map cell_roots new.cells) (flat_map pad_roots new.pads) i (Some r) here)
      by (inr (j, e, there)) = from_globals j there
