-- The bits of a placed design set each pad as its ports say.
use Rattle.std.proofs.Common.{◌≡◌, ◌⊎◌, ℕ, zero, suc, ◌<◌, ◌==◌, Bool, true, false, cond, Option, None, Some, List, [], ◌∷◌, ◌++◌, map, filter, length, get_or, inl, inr, refl, ap, sym, ◌∙◌, subst, arith}
use Rattle.std.specs.Prelude.{◌&&◌, not, slice_get, if◌then◌else◌}
use Rattle.std.specs.List.{range_with_len}
use Rattle.std.specs.Option.{option_and_then}
use Rattle.std.proofs.lemmas.Bool.{and_from, lt-ltb}
use Rattle.std.proofs.lemmas.Option.{same_Some, none-some, slice_get-get_or}
use Rattle.ice_base.specs.declared.number.TileAt.{TileAt}
use Rattle.ice_base.specs.declared.bit.BitAt.{BitAt}
use Rattle.ice_base.proofs.Keys.{nat_self, tile_self}
use Rattle.ice_base_values.specs.Order.{At, Has}
use Rattle.ice_base_values.proofs.Members.{At_within, Has_cases, Has_any, filter_Has, lookup_Has}
use Rattle.ice_base_values.proofs.Places.{At_same}
use Rattle.ice_base_values.proofs.Together.{Has_tail}
use Rattle.ice_net.specs.Meaning.{number_of, table_bit}
use Rattle.ice_chip.specs.Names.{pin_type_function, input_enable_function}
use Rattle.ice_chip.specs.Indices.{enables_of}
use Rattle.ice_chip.specs.Lookups.{kind_at, function_of, ieren_of, is_io_kind}
use Rattle.ice_chip.specs.Database.{same_tile, same_pad}
use Rattle.ice_chip_names.specs.declared.function_names.TileFunction.TheVariants.{PinType, InputEnable}
use Rattle.ice_chip.specs.declared.rows.TileLine.{TileLine}
use Rattle.ice_chip.specs.declared.rows.Pad.{Pad}
use Rattle.ice_chip.specs.declared.rows.TileKind.{TileKind}
use Rattle.ice_chip.specs.declared.rows.TileKind.TheVariants.{Io, Logic, RamBottom, RamTop}
use Rattle.ice_chip.proofs.Keys.{pad_same}
use Rattle.ice_bits.specs.Configuration.{Bits}
use Rattle.ice_bits.specs.Settings.{function_bit, set_at}
use Rattle.ice_decode.specs.Pads.{pads, pads_in, is_io_tile, is_enabled_by, is_enabled, pin_type_digit, pin_type}
use Rattle.ice_decode.proofs.Members.{Has_left}
use Rattle.ice_cells.specs.declared.design.DesignPad.{DesignPad}
use Rattle.ice_cells.specs.Formed.{IsPad}
use Rattle.ice_emit_rows_laws.specs.Settings.{function_bits}
use Rattle.ice_emit_rows_laws.specs.Wanted.{AreWanted, set_bits}
use Rattle.ice_emit_defs.specs.Functions.{setting, setting_if, type_settings, pull_up_settings, read_pads, is_read_pad, is_needed}
use Rattle.ice_emit_set_laws.proofs.CellNumbers.{Has_if}
use Rattle.ice_emit_set_laws.proofs.FunctionKinds.{own_name, first_named, second_named}
use Rattle.ice_emit_set_laws.proofs.Inside.{ports_on}
use Rattle.ice_emit_set_laws.proofs.Lists.{flat_Has, Has_flat, one_Has, Has_range}
use Rattle.ice_emit_set_laws.proofs.SetAt.{set_false, set_as}
use Rattle.ice_emit_set_laws.proofs.Told.{Case, read, all, told_at, all_own, in_ports, enable_below}

-- ---- pads
pad_self : (a : Pad) → same_pad a a ≡ true
pad_self a = and_from (same_tile a.tile a.tile) (a.pio == a.pio) (tile_self a.tile) (nat_self a.pio)

io_is : (kind : TileKind) → is_io_kind kind ≡ true → kind ≡ Io
io_is Io e = refl
io_is Logic e = cc e
io_is RamBottom e = cc e
io_is RamTop e = cc e

-- ---- digits of pin types
abbrev six : List ℕ
six = 0 ∷ 1 ∷ 2 ∷ 3 ∷ 4 ∷ 5 ∷ []

six_same : (f g : ℕ → Bool) → ((k : ℕ) → k < 6 → f k ≡ g k) → number_of (map f six) ≡ number_of (map g six)
six_same f g same =
    let a = same 0 (omega arith) in
    let b = same 1 (omega arith) in
    let c = same 2 (omega arith) in
    let d = same 3 (omega arith) in
    let e = same 4 (omega arith) in
    let h = same 5 (omega arith) in
    λ i. number_of (a i ∷ b i ∷ c i ∷ d i ∷ e i ∷ h i ∷ [])

type_number : (port : DesignPad) → IsPad port → number_of (map (table_bit port.pin_type) six) ≡ port.pin_type
type_number port is = by is
  where
    at : (n : ℕ) → port.pin_type ≡ n → number_of (map (table_bit n) six) ≡ n → number_of (map (table_bit port.pin_type) six) ≡ port.pin_type
    at n e f = subst (λ m. number_of (map (table_bit m) six) ≡ m) (sym e) f

    by : IsPad port → number_of (map (table_bit port.pin_type) six) ≡ port.pin_type
    by (inl input) = at 1 input.0 refl
    by (inr (inl output)) = at 25 output.0 refl
    by (inr (inr enabled)) = at 41 enabled refl

-- ---- pads that are read
read_Has : (ports : List Pad) (ps : List DesignPad) (k : ℕ) (pad : Pad) (port : DesignPad) → At ports k pad → At ps k port → port.reads ≡ true → Has (read_pads ports ps) pad
read_Has [] ps k pad port at port_at reads = absurd (none-some pad at)
read_Has (p ∷ ports) [] k pad port at port_at reads = absurd (none-some port port_at)
read_Has (p ∷ ports) (w ∷ ps) zero pad port at port_at reads =
    let is : w.reads ≡ true = ap (λ (x : DesignPad). x.reads) (same_Some w port port_at) ∙ reads in
    subst (λ b. Has (cond b (p ∷ read_pads ports ps) (read_pads ports ps)) pad) (sym is) (0, at)
read_Has (p ∷ ports) (w ∷ ps) (suc k) pad port at port_at reads = by w.reads (read_Has ports ps k pad port at port_at reads)
  where
    by : (b : Bool) → Has (read_pads ports ps) pad → Has (cond b (p ∷ read_pads ports ps) (read_pads ports ps)) pad
    by true rest = Has_tail p pad (read_pads ports ps) rest
    by false rest = rest

module _ (z : Case) (are : AreWanted z.parts z.wanted) where
  abbrev bits : Bits
  bits = set_bits z.parts z.wanted (function_bits z.parts (all z))

  -- ---- the pads of IO tiles
  record IsIoPad (pad : Pad) : Type 0 where
    pub known : kind_at z.parts pad.tile ≡ Some Io
    pub pio : (pad.pio ≡ 0) ⊎ (pad.pio ≡ 1)

  io_pad : (pad : Pad) → Has (pads z.parts) pad → IsIoPad pad
  io_pad pad has =
      let one = flat_Has (λ (tile : TileAt × TileLine). pads_in tile.0) (filter is_io_tile z.parts.tiles) pad has in
      let tile = one.0 in
      let there = filter_Has is_io_tile z.parts.tiles tile one.1 in
      let kind : kind_at z.parts tile.0 ≡ Some Io = z.known.lawful.tiles.kinds tile.0 tile.1 there.0 ∙ ap (λ k. Some k) (io_is tile.1.kind there.1) in
      elim (Has_cases (record { tile = tile.0; pio = 0 }) pad ((record { tile = tile.0; pio = 1 }) ∷ []) one.2) [
        | inl first ↦ subst IsIoPad first (record { known = kind; pio = inl refl })
        | inr more ↦ subst IsIoPad (one_Has (record { tile = tile.0; pio = 1 }) pad more) (record { known = kind; pio = inr refl })
      ]

  pio_below : (pad : Pad) → IsIoPad pad → pad.pio < 2
  pio_below pad io = by io.pio
    where
      by : (pad.pio ≡ 0) ⊎ (pad.pio ≡ 1) → pad.pio < 2
      by (inl e) = omega arith
      by (inr e) = omega arith

  type_place : (pad : Pad) → IsIoPad pad → (k : ℕ) → k < 6 → (b : BitAt) × (function_bit z.parts pad.tile (pin_type_function pad.pio k) 0 ≡ Some b)
  type_place pad io k lt = by io.pio
    where
      at : (pio : ℕ) → pad.pio ≡ pio → (there : (b : BitAt) × (option_and_then (λ f. slice_get f.bits 0) (function_of z.parts Io (pin_type_function pio k)) ≡ Some b))
          → (b : BitAt) × (function_bit z.parts pad.tile (pin_type_function pad.pio k) 0 ≡ Some b)
      at pio e there = (
        there.0,
        ap (option_and_then (λ (kind : TileKind). option_and_then (λ f. slice_get f.bits 0) (function_of z.parts kind (pin_type_function pad.pio k)))) io.known
            ∙ ap (λ n. option_and_then (λ f. slice_get f.bits 0) (function_of z.parts Io (pin_type_function n k))) e ∙ there.1,
      )

      by : (pad.pio ≡ 0) ⊎ (pad.pio ≡ 1) → (b : BitAt) × (function_bit z.parts pad.tile (pin_type_function pad.pio k) 0 ≡ Some b)
      by (inl e) = at 0 e (((z.known.lawful.functions.pads pad.tile io.known).first_types (pin_type_function 0 k) (first_named k lt)).bits 0 (omega arith))
      by (inr e) = at 1 e (((z.known.lawful.functions.pads pad.tile io.known).second_types (pin_type_function 1 k) (second_named k lt)).bits 0 (omega arith))

  -- ---- types
  pull_at : (n m j : ℕ) → n ≡ m → j < m → j < n
  pull_at n m j e lt = omega arith

  type_there : (j : ℕ) (pad : Pad) (port : DesignPad) → At z.plan.ports j pad → At z.plan.design.pads j port → pad.pio < 2 → (k : ℕ) → k < 6 → table_bit port.pin_type k ≡ true
      → Has (all z) (setting pad.tile (pin_type_function pad.pio k) 0)
  type_there j pad port at port_at below k lt set =
      let x = setting pad.tile (pin_type_function pad.pio k) 0 in
      let pullup = get_or z.pullups j false in
      let up : At z.pullups j pullup
      = slice_get-get_or z.pullups j false (pull_at (length z.pullups) (length z.plan.design.pads) j z.placed.pads.pullups (At_within z.plan.design.pads j port port_at)) in
      let inside : Has (type_settings pad port.pin_type) x
      = Has_flat (λ m. setting_if (table_bit port.pin_type m) pad.tile (pin_type_function pad.pio m) 0) (range_with_len 0 6) k x (Has_range 6 k lt)
      (Has_if (table_bit port.pin_type k) pad.tile (pin_type_function pad.pio k) 0 set) in
      let whole = Has_left (type_settings pad port.pin_type) (pull_up_settings z.parts pad pullup) x inside in
      in_ports z x
      (ports_on z.parts z.plan.ports z.pullups z.plan.design.pads j pad pullup port x at up port_at
      (subst (λ b. Has (if b then type_settings pad port.pin_type ++ pull_up_settings z.parts pad pullup else []) x) (sym (lt-ltb pad.pio 2 below)) whole))

  type_digit : (j : ℕ) (pad : Pad) (port : DesignPad) → At z.plan.ports j pad → At z.plan.design.pads j port → IsIoPad pad → (k : ℕ) → k < 6
      → pin_type_digit z.parts bits pad k ≡ table_bit port.pin_type k
  type_digit j pad port at port_at io k lt =
      let place = type_place pad io k lt in
      set_as z.parts z.known.chip z.known.lawful (all z) (all_own z) z.wanted are (table_bit port.pin_type k) pad.tile (pin_type_function pad.pio k) 0 place.0 (own_name z.parts pad.tile (PinType pad.pio k) (λ e io. cc e)) place.1
      (type_there j pad port at port_at (pio_below pad io) k lt)
      (λ has.
      let other = told_at z pad.tile 0 (PinType pad.pio k) (pio_below pad io, lt) has in
      let same : other.0 ≡ j = z.placed.pads.apart other.0 j pad other.2 at in
      let port_is : other.1 ≡ port = At_same z.plan.design.pads j other.1 port (subst (λ n. At z.plan.design.pads n other.1) same other.3) port_at in
      subst (λ (x : DesignPad). table_bit x.pin_type k ≡ true) port_is other.4)

  pub type_set : (k : ℕ) (pad : Pad) (port : DesignPad) → At z.plan.ports k pad → At z.plan.design.pads k port → Has (pads z.parts) pad → pin_type z.parts bits pad ≡ port.pin_type
  type_set k pad port at port_at has =
      six_same (pin_type_digit z.parts bits pad) (table_bit port.pin_type) (type_digit k pad port at port_at (io_pad pad has)) ∙ type_number port (z.placed.formed.pads k port port_at)

  pub type_none : (pad : Pad) → Has (pads z.parts) pad → (Has z.plan.ports pad → ⊥) → pin_type z.parts bits pad ≡ 0
  type_none pad has none =
      six_same (pin_type_digit z.parts bits pad) (λ k. false) (λ k lt.
      set_false z.parts z.known.chip z.known.lawful (all z) (all_own z) z.wanted are pad.tile (pin_type_function pad.pio k) 0 (own_name z.parts pad.tile (PinType pad.pio k) (λ e io. cc e))
      (λ listed. let other = told_at z pad.tile 0 (PinType pad.pio k) (pio_below pad (io_pad pad has), lt) listed in none (other.0, other.2)))

  -- ---- input enables
  read_port : (k : ℕ) (pad : Pad) (port : DesignPad) → At z.plan.ports k pad → At z.plan.design.pads k port → port.reads ≡ true → is_read_pad (read z) pad ≡ true
  read_port k pad port at port_at reads = let has = read_Has z.plan.ports z.plan.design.pads k pad port at port_at reads in Has_any (same_pad pad) (read z) pad has.0 has.1 (pad_self pad)

  not_disabled : (row : Pad × Pad) → Has (enables_of z.parts) row → is_read_pad (read z) row.0 ≡ true → set_at z.parts bits row.1.tile (input_enable_function row.1.pio) 0 ≡ false
  not_disabled row has reads =
      set_false z.parts z.known.chip z.known.lawful (all z) (all_own z) z.wanted are row.1.tile (input_enable_function row.1.pio) 0 (own_name z.parts row.1.tile (InputEnable row.1.pio) (λ e io. cc e))
      (λ listed.
      let unneeded = told_at z row.1.tile 0 (InputEnable row.1.pio) (enable_below z row has) listed in
      let needed : is_needed (enables_of z.parts) (read z) row.1 ≡ true
      = Has_any (λ (other : Pad × Pad). same_pad other.1 row.1 && is_read_pad (read z) other.0) (enables_of z.parts) row has.0 has.1
      (and_from (same_pad row.1 row.1) (is_read_pad (read z) row.0) (pad_self row.1) reads) in
      cc (needed, unneeded))

  pub enabled : (k : ℕ) (pad : Pad) (port : DesignPad) → At z.plan.ports k pad → At z.plan.design.pads k port → port.reads ≡ true → is_enabled z.parts bits pad ≡ true
  enabled k pad port at port_at reads = by (ieren_of z.parts pad) refl
    where
      by : (o : Option Pad) → ieren_of z.parts pad ≡ o → is_enabled z.parts bits pad ≡ true
      by None e = ap (is_enabled_by z.parts bits) e
      by (Some q) e =
          let one = lookup_Has (same_pad pad) (enables_of z.parts) q (z.known.enables pad ∙ e) in
          let reads_one = subst (λ (p : Pad). is_read_pad (read z) p ≡ true) (pad_same pad one.0 one.2) (read_port k pad port at port_at reads) in
          ap (is_enabled_by z.parts bits) e ∙ ap not (not_disabled (one.0, q) one.1 reads_one)

  pub disabled : (row : Pad × Pad) → Has (enables_of z.parts) row → set_at z.parts bits row.1.tile (input_enable_function row.1.pio) 0 ≡ true
      → (k : ℕ) (port : DesignPad) → At z.plan.ports k row.0 → At z.plan.design.pads k port → port.reads ≡ false
  disabled row has set k port at port_at = by port.reads refl
    where
      by : (b : Bool) → port.reads ≡ b → port.reads ≡ false
      by false e = e
      by true e = (let unset = not_disabled row has (read_port k row.0 port at port_at e) in cc (set, unset))
