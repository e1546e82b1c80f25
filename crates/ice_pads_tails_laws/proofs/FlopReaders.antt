-- What the flip-flops of a design read, those of its netlist read.
use Rattle.std.proofs.Common.{◌≡◌, ◌⊎◌, ℕ, Bool, true, false, Option, None, Some, List, flat_map, inl, inr, refl, sym, ap, ◌∙◌, true≢false}
use Rattle.std.specs.Prelude.{slice_get, slice_index_or}
use Rattle.std.specs.List.{list_any}
use Rattle.std.specs.Option.{option_map_or}
use Rattle.ice_base_values.specs.Order.{At}
use Rattle.ice_base_values.proofs.Members.{At_left, Has_any, any_Has}
use Rattle.ice_net.specs.declared.cell.Cell.{Cell}
use Rattle.ice_net.specs.declared.kind.CellKind.{CellKind}
use Rattle.ice_net.specs.declared.kind.CellKind.TheVariants.{Lut, Cover, Carry, Flop, PadCell, Global}
use Rattle.ice_net.specs.declared.kind.Reset.{Reset}
use Rattle.ice_net.specs.Formed.{IsFormed}
use Rattle.ice_net.specs.NetlistData.{NetlistData}
use Rattle.ice_cells.specs.declared.cell.Control.{Control}
use Rattle.ice_cells.specs.declared.cell.LogicCell.{LogicCell}
use Rattle.ice_cells.specs.declared.design.Design.{Design}
use Rattle.ice_cells.specs.Chains.{feed_cells}
use Rattle.ice_cells.specs.Follows.{follows}
use Rattle.ice_cells.specs.Homes.{part, anchor}
use Rattle.ice_cells.specs.Moves.{become, flop_at, kept_flop, moved_cell, renamed_flop}
use Rattle.ice_cells.specs.Packed.{plan_of, flop_by, flop_for, flop_of, constant_cell, packed}
use Rattle.ice_cells.specs.Runs.{cells_fed, fed_numbers, movers, moved_numbers, run_heads, runs_of, design_of}
use Rattle.ice_carry_chains.proofs.CellsAfter.{FeedsIn, FeedsOut, CellAfter, Became, Moved, after_at, after_back}
use Rattle.ice_carry_chains.proofs.DesignRuns.{CellFed, Old, Feed, cell_fed}
use Rattle.ice_carry_laws.proofs.MovedNumbers.{moved_to}
use Rattle.ice_pack_laws.proofs.Found.{fs, IsOpened, opened_back}
use Rattle.ice_pack_laws.proofs.Packs.{packed_is}

-- a test of flip-flops, which none passes that is missing, and which no renaming changes
pub record IsReading (reads : Option (Control × Reset) → Bool) : Type 0 where
  pub none : reads None ≡ false
  pub alike : (moved fed : List (Option ℕ)) (flop : Option (Control × Reset)) → reads (renamed_flop moved fed flop) ≡ reads flop

module _ (reads : Option (Control × Reset) → Bool) (is_reading : IsReading reads) where
  abbrev passes : LogicCell → Bool
  passes cell = reads cell.flop

  missing : (flop : Option (Control × Reset)) → flop ≡ None → reads flop ≡ true → ⊥
  missing flop e is = true≢false (sym is ∙ ap reads e ∙ is_reading.none)

  -- ---- runs
  module _ (d : Design) where
    abbrev moved : List (Option ℕ)
    moved = moved_numbers d

    abbrev fed : List (Option ℕ)
    fed = fed_numbers d

    of_fed : (c : ℕ) (x : LogicCell) → CellFed d c x → reads x.flop ≡ true → list_any passes d.cells ≡ true
    of_fed c x (Old at) is = Has_any passes d.cells x c at is
    of_fed c x (Feed r head i at (FeedsIn root f h k) number) is = absurd (missing x.flop (ap (λ (y : LogicCell). y.flop) (sym k)) is)
    of_fed c x (Feed r head i at (FeedsOut f h k) number) is = absurd (missing x.flop (ap (λ (y : LogicCell). y.flop) (sym k)) is)

    of_kept : (o : Option ℕ) (flop : Option (Control × Reset)) → reads (kept_flop o flop) ≡ true → reads flop ≡ true
    of_kept None flop is = is
    of_kept (Some m) flop is = absurd (missing None refl is)

    of_moved : (m : ℕ) (o : Option LogicCell) → slice_get (cells_fed d) m ≡ o → reads (option_map_or (λ (x : LogicCell). x.flop) o None) ≡ true → list_any passes d.cells ≡ true
    of_moved m None e is = absurd (missing None refl is)
    of_moved m (Some x) e is = of_fed m x (cell_fed d m x e) is

    of_after : (c : ℕ) (y : LogicCell) → CellAfter moved fed (cells_fed d) c y → reads y.flop ≡ true → list_any passes d.cells ≡ true
    of_after c y (Became x at same) is =
        of_fed c x (cell_fed d c x at)
        (of_kept (slice_index_or moved c None) x.flop
        (sym (is_reading.alike moved fed (kept_flop (slice_index_or moved c None) x.flop)) ∙ ap (λ (z : LogicCell). reads z.flop) same ∙ is))
    of_after c y (Moved m same) is =
        of_moved m (slice_get (cells_fed d) m) refl (sym (is_reading.alike moved fed (flop_at (cells_fed d) m)) ∙ ap (λ (z : LogicCell). reads z.flop) same ∙ is)

    before_runs : list_any passes (runs_of d).cells ≡ true → list_any passes d.cells ≡ true
    before_runs is =
        let found = any_Has passes (runs_of d).cells is in
        of_after found.1.0 found.0 (after_back moved fed (cells_fed d) (movers d) found.1.0 found.0 found.1.1) found.2

    in_runs : list_any passes d.cells ≡ true → list_any passes (runs_of d).cells ≡ true
    in_runs is = let found = any_Has passes d.cells is in by found.1.0 found.0 found.1.1 found.2 (slice_index_or moved found.1.0 None) refl
      where
        by : (c : ℕ) (x : LogicCell) → At d.cells c x → reads x.flop ≡ true → (o : Option ℕ) → slice_index_or moved c None ≡ o → list_any passes (runs_of d).cells ≡ true
        by c x at reading None e =
            let here : At (cells_fed d) c x = At_left d.cells (flat_map (feed_cells (follows d)) (run_heads d)) c x at in
            Has_any passes (runs_of d).cells (become moved fed c x) c (after_at moved fed (cells_fed d) (movers d) c x here)
            (is_reading.alike moved fed (kept_flop (slice_index_or moved c None) x.flop) ∙ ap (λ o. reads (kept_flop o x.flop)) e ∙ reading)
        by c x at reading (Some m) e =
            let there = moved_to d c m e in
            Has_any passes (runs_of d).cells (moved_cell moved fed d.cells c) m there.4
            (is_reading.alike moved fed (flop_at d.cells c) ∙ ap (λ (o : Option LogicCell). reads (option_map_or (λ (y : LogicCell). y.flop) o None)) at ∙ reading)

  -- ---- packing
  -- a flip-flop of the netlist passes
  pub record IsPassed (n : NetlistData) : Type 0 where
    pub number : ℕ
    pub cell : Cell
    pub at : At n.cells number cell
    pub is : reads (flop_by (plan_of n) cell.kind cell.ins) ≡ true

  module _ (n : NetlistData) where
    of_number : (o : Option ℕ) → reads (flop_of (plan_of n) n.cells o) ≡ true → IsPassed n
    of_number None is = absurd (missing None refl is)
    of_number (Some f) is = by (slice_get n.cells f) refl is
      where
        by : (o : Option Cell) → slice_get n.cells f ≡ o → reads (option_map_or (λ (cell : Cell). flop_by (plan_of n) cell.kind cell.ins) o None) ≡ true → IsPassed n
        by None e passing = absurd (missing None refl passing)
        by (Some cell) e passing = record { number = f; cell = cell; at = e; is = passing }

    unpacked : list_any passes (packed n).cells ≡ true → IsPassed n
    unpacked is = let found = any_Has passes (packed n).cells is in by found.0 (opened_back n found.1.0 found.0 found.1.1) found.2
      where
        by : (logic : LogicCell) → {c : ℕ} → IsOpened n c logic ⊎ ((level : Bool) × (logic ≡ constant_cell level)) → reads logic.flop ≡ true → IsPassed n
        by logic (inl opened) passing =
            of_number (flop_for (plan_of n) (anchor (fs n) opened.number) (part (fs n) (anchor (fs n) opened.number))) (sym (ap (λ (x : LogicCell). reads x.flop) opened.is) ∙ passing)
        by logic (inr (level, same)) passing = absurd (missing logic.flop (ap (λ (x : LogicCell). x.flop) same) passing)

    is_packed : IsFormed n → IsPassed n → list_any passes (packed n).cells ≡ true
    is_packed formed of = by of.cell.kind refl
      where
        by : (kind : CellKind) → of.cell.kind ≡ kind → list_any passes (packed n).cells ≡ true
        by (Lut t) e = absurd (missing (flop_by (plan_of n) of.cell.kind of.cell.ins) (ap (λ k. flop_by (plan_of n) k of.cell.ins) e) of.is)
        by (Cover t width) e = absurd (missing (flop_by (plan_of n) of.cell.kind of.cell.ins) (ap (λ k. flop_by (plan_of n) k of.cell.ins) e) of.is)
        by Carry e = absurd (missing (flop_by (plan_of n) of.cell.kind of.cell.ins) (ap (λ k. flop_by (plan_of n) k of.cell.ins) e) of.is)
        by (PadCell pin_type pullup) e = absurd (missing (flop_by (plan_of n) of.cell.kind of.cell.ins) (ap (λ k. flop_by (plan_of n) k of.cell.ins) e) of.is)
        by Global e = absurd (missing (flop_by (plan_of n) of.cell.kind of.cell.ins) (ap (λ k. flop_by (plan_of n) k of.cell.ins) e) of.is)
        by (Flop falling enable reset) e =
            let has = (packed_is n formed).flops of.number of.cell falling enable reset of.at e in
            Has_any passes (packed n).cells has.logic has.home has.at
            (ap reads has.flop ∙ ap (λ (o : Option Cell). reads (option_map_or (λ (cell : Cell). flop_by (plan_of n) cell.kind cell.ins) o None)) of.at ∙ of.is)

  -- ---- both
  pub of_design : (n : NetlistData) → list_any passes (design_of n).cells ≡ true → IsPassed n
  of_design n is = unpacked n (before_runs (packed n) is)

  pub in_design : (n : NetlistData) → IsFormed n → IsPassed n → list_any passes (design_of n).cells ≡ true
  in_design n formed of = in_runs (packed n) (is_packed n formed of)
