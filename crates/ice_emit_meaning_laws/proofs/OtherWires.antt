-- Which points of the chip have a level whatever feeds its globals: the carries of cells, and each wire but a global that no row enters.
use Rattle.std.proofs.Common.{◌≡◌, ◌⊎◌, ℕ, zero, suc, ◌+◌, ◌<◌, Bool, true, false, cond, Option, None, Some, List, [], ◌∷◌, inl, inr, refl, sym, ap, ◌∙◌, subst, true≢false, arith}
use Rattle.std.specs.Prelude.{◌*◌, nat_eq, slice_index_or, option_map}
use Rattle.std.specs.Option.{option_map_or}
use Rattle.std.proofs.lemmas.Option.{same_Some, none-some}
use Rattle.ice_base.specs.declared.number.TileAt.{TileAt}
use Rattle.ice_base.proofs.Keys.{nat_same, nat_self}
use Rattle.ice_base_values.specs.Order.{Has}
use Rattle.ice_chip.specs.Lookups.{kind_at, wire_named}
use Rattle.ice_chip.specs.Names.{input_name}
use Rattle.ice_chip.specs.WireNames.{carry_out_name}
use Rattle.ice_chip.specs.declared.rows.Pad.{Pad}
use Rattle.ice_chip.specs.declared.rows.TileKind.TheVariants.{Logic}
use Rattle.ice_decode.specs.declared.point.Point.{Point}
use Rattle.ice_decode.specs.declared.point.Point.TheVariants.{Wire, Carry}
use Rattle.ice_decode.specs.declared.role.Role.{Role}
use Rattle.ice_decode.specs.declared.role.Role.TheVariants.{Plain, Output, LookUp, CarryOut, PadInput, RamOutput, Global, CarryIn, ClockEnable}
use Rattle.ice_decode.specs.declared.driver.Driver.TheVariants.{Nothing}
use Rattle.ice_decode.specs.declared.driver.Switch.{Switch}
use Rattle.ice_decode.specs.Cells.{has_flop, logic_tiles, tile_place}
use Rattle.ice_decode.specs.Meaning.{role_makes}
use Rattle.ice_decode.specs.Pads.{kept_at}
use Rattle.ice_decode.specs.Reads.{wire_point, at_pin, cell_inputs, role_reads}
use Rattle.ice_decode.specs.Drivers.{role_of}
use Rattle.ice_decode.proofs.RolePlaces.{IsCell, IsOfCell, role_of_cell}
use Rattle.ice_cells.specs.declared.cell.LogicCell.{LogicCell}
use Rattle.ice_cells.specs.declared.root.Root.TheVariants as root
use Rattle.ice_cells.specs.Nodes.{Node, Net}
use Rattle.ice_emit_nets.specs.Ends.{wire_no}
use Rattle.ice_emit_defs.specs.Led.{IsBare, IsOfRoot, IsLink}
use Rattle.ice_emit_defs.specs.Slots.{StandsIn}
use Rattle.ice_emit_meaning_laws.proofs.Premises.{Premises}
use Rattle.ice_emit_meaning_laws.proofs.Arriving.{arrives, source_level, v}
use Rattle.ice_emit_meaning_laws.proofs.CarriesIn.{IsInRun, run_before}
use Rattle.ice_emit_meaning_laws.proofs.Pins.{input_plain, carry_is}
use Rattle.ice_emit_meaning_laws.proofs.Slots.{logic_on, stands_or_none}
use Rattle.ice_emit_meaning_laws.proofs.Starts.{AtCarry, below_is, root_starts}
use Rattle.ice_emit_meaning_laws.proofs.WireLevels.{HasLevel, HaveLevels, Reads, put, wire_made, carry_off, carried, plain_low, row_level, led_level}

pub entered_or_bare : (wanted : List Switch) (w : ℕ) → ((s : Switch) × Has wanted s × (s.target.0 ≡ w)) ⊎ IsBare wanted w
entered_or_bare [] w = inr (λ s has e. none-some s has.1)
entered_or_bare (first ∷ wanted) w = by (nat_eq first.target.0 w) refl (entered_or_bare wanted w)
  where
    never : nat_eq first.target.0 w ≡ false → IsBare wanted w → IsBare (first ∷ wanted) w
    never e rest s (zero, at) f = true≢false (sym (nat_self w) ∙ ap (λ x. nat_eq x w) (sym (ap (λ (r : Switch). r.target.0) (same_Some first s at) ∙ f)) ∙ e)
    never e rest s (suc i, at) f = rest s (i, at) f

    by : (b : Bool) → nat_eq first.target.0 w ≡ b → ((s : Switch) × Has wanted s × (s.target.0 ≡ w)) ⊎ IsBare wanted w → ((s : Switch) × Has (first ∷ wanted) s × (s.target.0 ≡ w)) ⊎ IsBare (first ∷ wanted) w
    by true e rest = inl (first, (0, refl), nat_same first.target.0 w e)
    by false e (inl found) = inl (found.0, (suc found.1.0, found.1.1), found.2)
    by false e (inr bare) = inr (never e bare)

-- the wire is a global's, and no row enters it
abbrev pub IsBareGlobal : Premises → ℕ → Type 0
IsBareGlobal g w = (n : ℕ) × IsBare g.wanted w × (role_of g.parts w ≡ Global n)

module _ (g : Premises) (bonded : List Pad) (levels kept kept_cells : List Bool)
    (alike : (t : TileAt) (i c : ℕ) (cell : LogicCell) → StandsIn g.plan t i c cell → kept_at g.parts kept t i ≡ slice_index_or kept_cells c false) where
  abbrev HasL : Point → Bool → Type 0
  HasL p x = HasLevel g.parts g.bits g.extras bonded levels kept p x

  abbrev HaveL : List (Option Point) → List Bool → Type 0
  HaveL ps xs = HaveLevels g.parts g.bits g.extras bonded levels kept ps xs

  abbrev pub IsValued : Point → Type 0
  IsValued p = (x : Bool) × HasL p x

  abbrev level_of_node : Node → Bool
  level_of_node n = v g bonded levels kept kept_cells alike n

  -- ---- carries
  pub carry_valued : (t : TileAt) (i : ℕ) → i < 8 → IsValued (Carry t i)
  carry_valued t i lt = by (stands_or_none g t i)
    where
      with_cell : (c : ℕ) (cell : LogicCell) → StandsIn g.plan t i c cell → (b : Bool) → cell.carry ≡ b → IsValued (Carry t i)
      with_cell c cell s true e = (level_of_node (Net (root.CarryOut c)), arrives g bonded levels kept kept_cells alike (Net (root.CarryOut c)) (Carry t i) (AtCarry t i c cell s e))
      with_cell c cell s false e = (false, carry_off g.parts g.bits g.extras bonded levels kept t i ((g.are_set.cells t i c cell s).carry ∙ e))

      by : ((c : ℕ) × (cell : LogicCell) × StandsIn g.plan t i c cell) ⊎ ((c : ℕ) (cell : LogicCell) → StandsIn g.plan t i c cell → ⊥) → IsValued (Carry t i)
      by (inl one) = with_cell one.0 one.1 one.2 one.1.carry refl
      by (inr never) = (false, carry_off g.parts g.bits g.extras bonded levels kept t i (g.are_set.free t i lt never).carry)

  carry_wire : (t : TileAt) (i w : ℕ) → kind_at g.parts t ≡ Some Logic → i < 8 → wire_named g.parts t (carry_out_name i) ≡ Some w → IsValued (wire_point w)
  carry_wire t i w logic lt named =
      let has = carry_valued t i lt in
      (has.0, carried g.parts g.bits g.extras bonded levels kept w t i has.0 (g.wired.bare w (g.led.carries t i w logic lt named)) (carry_is g.parts g.lawful t logic w i lt named) has.1)

  -- ---- wires that rows enter
  of_root : (s : Switch) → Has g.wanted s → IsOfRoot g.parts g.plan g.wanted s.source → IsValued (Wire s.source)
  of_root s has (r, reads, u, is, way) =
      let n : Node = Net r in (
        level_of_node n,
        led_level g.parts g.bits g.extras bonded levels kept g.wanted g.wired g.are_set.passing s.source (wire_no u) (level_of_node n) way
            (arrives g bonded levels kept kept_cells alike n (wire_point u) (root_starts g r u is reads)),
      )

  of_link : (s : Switch) → IsLink g.parts g.plan s → IsValued (Wire s.source)
  of_link s (inl (t, i, c, cell, stands, chained, source, target)) =
      let place = (g.placed.formed.chained c cell stands.cell_is chained).1 in
      let run : IsInRun g.plan.design c = record { number = place.0; place = place.1 + 1; run = place.2; run_is = place.3; cell_is = place.4 } in
      let n : Node = run_before place.2 (place.1 + 1) in (
        level_of_node n,
        source_level g bonded levels kept kept_cells alike t i s.source.0 n (below_is g t i c cell stands run) source (arrives g bonded levels kept kept_cells alike n),
      )
  of_link s (inr (t, low, cluster, under, r, k, on, run_is, below_on, below_run, source, target)) = carry_wire low 7 s.source.0 (logic_on g low under below_on) (omega arith) source

  entered : (s : Switch) → Has g.wanted s → IsValued (Wire s.target)
  entered s has = by (g.led.origins s has)
    where
      along : IsValued (Wire s.source) → IsValued (Wire s.target)
      along from = (from.0, row_level g.parts g.bits g.extras bonded levels kept g.wanted g.wired g.are_set.passing s from.0 has from.1)

      by : IsOfRoot g.parts g.plan g.wanted s.source ⊎ IsLink g.parts g.plan s → IsValued (Wire s.target)
      by (inl from) = along (of_root s has from)
      by (inr link) = along (of_link s link)

  -- a wire that no row enters, or one that some row enters
  valued_by : (w : ℕ) → (IsBare g.wanted w → IsValued (wire_point w)) → IsValued (wire_point w)
  valued_by w bare = by (entered_or_bare g.wanted w)
    where
      by : ((s : Switch) × Has g.wanted s × (s.target.0 ≡ w)) ⊎ IsBare g.wanted w → IsValued (wire_point w)
      by (inl one) = subst (λ u. IsValued (wire_point u)) one.2 (entered one.0 one.1)
      by (inr none) = bare none

  -- ---- wires that none enters
  pin_valued : (o : Option ℕ) → ((w : ℕ) → o ≡ Some w → IsValued (wire_point w)) → (x : Bool) × Reads g.parts g.bits g.extras bonded levels kept (option_map wire_point o) x
  pin_valued None each = (false, refl)
  pin_valued (Some w) each = each w refl

  inputs_valued : (t : TileAt) (i : ℕ) → IsCell g.parts t i → (xs : List Bool) × HaveL (cell_inputs g.parts t i) xs
  inputs_valued t i is =
      let one = input 0 (omega arith) in
      let two = input 1 (omega arith) in
      let three = input 2 (omega arith) in
      let four = input 3 (omega arith) in (
        one.0 ∷ two.0 ∷ three.0 ∷ four.0 ∷ [],
        put g.parts g.bits g.extras bonded levels kept (at_pin g.parts t (input_name i 0)) one.0 _ _ one.1
            (put g.parts g.bits g.extras bonded levels kept (at_pin g.parts t (input_name i 1)) two.0 _ _ two.1
            (put g.parts g.bits g.extras bonded levels kept (at_pin g.parts t (input_name i 2)) three.0 _ _ three.1
            (put g.parts g.bits g.extras bonded levels kept (at_pin g.parts t (input_name i 3)) four.0 [] [] four.1 tt))),
      )
    where
      input : (k : ℕ) → k < 4 → (x : Bool) × Reads g.parts g.bits g.extras bonded levels kept (at_pin g.parts t (input_name i k)) x
      input k lt =
          pin_valued (wire_named g.parts t (input_name i k))
          (λ w named. valued_by w (λ none. (false, plain_low g.parts g.bits g.extras bonded levels kept w (g.wired.bare w none) (input_plain g.parts g.lawful t is.logic w i k is.below lt named))))

  abbrev makes_of : Role → List Bool → Bool
  makes_of r xs = role_makes g.parts g.bits g.extras bonded levels kept r xs

  by_role : (w : ℕ) (r : Role) (xs : List Bool) → IsBare g.wanted w → role_of g.parts w ≡ r → HaveL (role_reads g.parts g.bits g.extras r) xs → IsValued (wire_point w)
  by_role w r xs none is have = (makes_of r xs, wire_made g.parts g.bits g.extras bonded levels kept w Nothing r xs (makes_of r xs) (g.wired.bare w none) is have refl)

  -- a wire that is no global
  other_valued : (w : ℕ) → IsBare g.wanted w → (r : Role) → role_of g.parts w ≡ r → IsOfCell g.parts r → ((n : ℕ) → r ≡ Global n → ⊥) → IsValued (wire_point w)
  other_valued w none Plain is fits not = by_role w Plain [] none is tt
  other_valued w none (Output t i) is fits not = by (has_flop g.parts g.bits t i) refl
    where
      by : (b : Bool) → has_flop g.parts g.bits t i ≡ b → IsValued (wire_point w)
      by true e = by_role w (Output t i) [] none is (subst (λ (b : Bool). HaveL (cond b [] (cell_inputs g.parts t i)) []) (sym e) tt)
      by false e =
          let all = inputs_valued t i fits in by_role w (Output t i) all.0 none is (subst (λ (b : Bool). HaveL (cond b [] (cell_inputs g.parts t i)) all.0) (sym e) all.1)
  other_valued w none (LookUp t i) is fits not = let all = inputs_valued t i fits in by_role w (LookUp t i) all.0 none is all.1
  other_valued w none (CarryOut t i) is fits not = let has = carry_valued t i fits.below in by_role w (CarryOut t i) (has.0 ∷ []) none is (has.1, tt)
  other_valued w none (PadInput pad) is fits not = by_role w (PadInput pad) [] none is tt
  other_valued w none (RamOutput pad) is fits not = by_role w (RamOutput pad) [] none is tt
  other_valued w none (Global n) is fits not = absurd (not n refl)
  other_valued w none (CarryIn t) is fits not = by_role w (CarryIn t) [] none is tt
  other_valued w none ClockEnable is fits not = by_role w ClockEnable [] none is tt

  -- ---- all wires
  bare_cases : (w : ℕ) → IsBare g.wanted w → (r : Role) → role_of g.parts w ≡ r → IsOfCell g.parts r → IsValued (wire_point w) ⊎ IsBareGlobal g w
  bare_cases w none Plain is fits = inl (other_valued w none Plain is fits (λ n e. cc e))
  bare_cases w none (Output t i) is fits = inl (other_valued w none (Output t i) is fits (λ n e. cc e))
  bare_cases w none (LookUp t i) is fits = inl (other_valued w none (LookUp t i) is fits (λ n e. cc e))
  bare_cases w none (CarryOut t i) is fits = inl (other_valued w none (CarryOut t i) is fits (λ n e. cc e))
  bare_cases w none (PadInput pad) is fits = inl (other_valued w none (PadInput pad) is fits (λ n e. cc e))
  bare_cases w none (RamOutput pad) is fits = inl (other_valued w none (RamOutput pad) is fits (λ n e. cc e))
  bare_cases w none (Global n) is fits = inr (n, none, is)
  bare_cases w none (CarryIn t) is fits = inl (other_valued w none (CarryIn t) is fits (λ n e. cc e))
  bare_cases w none ClockEnable is fits = inl (other_valued w none ClockEnable is fits (λ n e. cc e))

  pub wire_cases : (w : ℕ) → IsValued (wire_point w) ⊎ IsBareGlobal g w
  wire_cases w = by (entered_or_bare g.wanted w)
    where
      by : ((s : Switch) × Has g.wanted s × (s.target.0 ≡ w)) ⊎ IsBare g.wanted w → IsValued (wire_point w) ⊎ IsBareGlobal g w
      by (inl one) = inl (subst (λ u. IsValued (wire_point u)) one.2 (entered one.0 one.1))
      by (inr none) = bare_cases w none (role_of g.parts w) refl (role_of_cell g.parts w)

-- before the first step
pub nothing_kept : (g : Premises) (t : TileAt) (i : ℕ) → kept_at g.parts [] t i ≡ false
nothing_kept g t i = by (tile_place t (logic_tiles g.parts))
  where
    by : (o : Option ℕ) → option_map_or (λ k. slice_index_or [] (8 * k + i) false) o false ≡ false
    by None = refl
    by (Some k) = refl
