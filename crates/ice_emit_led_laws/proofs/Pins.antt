-- A wire is of one pin.
use Rattle.std.proofs.Common.{◌≡◌, ◌⊎◌, ℕ, true, false, Option, None, Some, List, inl, inr, refl, sym, ap, ◌∙◌, subst, true≢false}
use Rattle.std.specs.Option.{option_map_or}
use Rattle.std.specs.Prelude.{◌&&◌, not, IfSome}
use Rattle.std.proofs.lemmas.Bool.{and_parts, or_left, or_right}
use Rattle.std.proofs.lemmas.Option.{same_Some}
use Rattle.ice_base.specs.declared.number.TileAt.{TileAt}
use Rattle.ice_base_values.specs.Order.{Has}
use Rattle.ice_base_values.proofs.Members.{any_Has, Has_any}
use Rattle.ice_chip.specs.Database.{Parts}
use Rattle.ice_chip.specs.Lookups.{kind_at, names_of, placed_at}
use Rattle.ice_chip.specs.PinNames.{is_input_of, is_output_of, is_input_name, is_output_name}
use Rattle.ice_chip.specs.RamNames.{has_ram_wire, is_read_out}
use Rattle.ice_chip.specs.Names.{is_global_name}
use Rattle.ice_chip_names.proofs.RamNamesRead.{ram_name_begins}
use Rattle.ice_chip.specs.WireNames.{IsNamedWire, IsTileWire, WireNamesAreRead, tile_wire, wire_name}
use Rattle.ice_chip.specs.declared.rows.TileKind.{TileKind}
use Rattle.ice_chip.specs.declared.rows.TileKind.TheVariants.{Io, Logic, RamBottom, RamTop}
use Rattle.ice_chip.specs.declared.placed.PlacedName.{PlacedName}
use Rattle.ice_chip_names.specs.declared.wire_names.TileWire.{TileWire}
use Rattle.ice_chip_names.specs.declared.wire_names.TileWire.TheVariants.{CellInput, CellOutput, CarryOut, LookUp, Clock, ClockEnable, SetReset, CarryIn, FirstCarry, PadInput, PadOutput, OutputEnable, InputClock, OutputClock, InOutEnable, Fabout, Global, Ram}
use Rattle.ice_chip_laws.specs.Laws.{IsLawful}
use Rattle.ice_chip_laws.specs.Names.{HasName}
use Rattle.ice_chip_laws.specs.Pins.{IsPinOf, is_pin_in}
use Rattle.ice_bits_rows.specs.WireNames.{is_input_in, is_output_in, has_input_name, has_output_name}
use Rattle.ice_emit_led_laws.specs.Pins.{IsInput, IsOutput}

-- ---- names
-- what is read has no name of a global
input_local : (kind : TileKind) (wire : TileWire) → IsTileWire wire → is_input_of kind wire ≡ true → is_global_name (wire_name wire) ≡ false
input_local kind (CellInput i k) within e = refl
input_local kind (CellOutput i) within e = refl
input_local kind (CarryOut i) within e = refl
input_local kind (LookUp i) within e = refl
input_local kind Clock within e = refl
input_local kind ClockEnable within e = refl
input_local kind SetReset within e = refl
input_local kind CarryIn within e = refl
input_local kind FirstCarry within e = refl
input_local kind (PadInput pio) within e = refl
input_local kind (PadOutput pio) within e = refl
input_local kind (OutputEnable pio) within e = refl
input_local kind InputClock within e = refl
input_local kind OutputClock within e = refl
input_local kind InOutEnable within e = refl
input_local kind Fabout within e = refl
input_local Io (Global n) within e = absurd (true≢false (sym e))
input_local Logic (Global n) within e = absurd (true≢false (sym e))
input_local RamBottom (Global n) within e = absurd (true≢false (sym e))
input_local RamTop (Global n) within e = absurd (true≢false (sym e))
input_local kind (Ram n) within e = ap is_global_name (ram_name_begins n within)

-- a wire of a block RAM is read or driven
never_ram : (kind : TileKind) (n : ℕ) → (has_ram_wire kind n && not (is_read_out n)) ≡ true → (has_ram_wire kind n && is_read_out n) ≡ true → ⊥
never_ram kind n a b =
    let out : is_read_out n ≡ true = (and_parts (has_ram_wire kind n) (is_read_out n) b).1 in
    true≢false (sym (and_parts (has_ram_wire kind n) (not (is_read_out n)) a).1 ∙ ap not out)

-- nothing is both read and driven in a tile of one kind
never_both : (kind : TileKind) (wire : TileWire) → is_input_of kind wire ≡ true → is_output_of kind wire ≡ true → ⊥
never_both Io (PadOutput pio) a b = true≢false (sym b)
never_both Io (OutputEnable pio) a b = true≢false (sym b)
never_both Io InputClock a b = true≢false (sym b)
never_both Io OutputClock a b = true≢false (sym b)
never_both Io InOutEnable a b = true≢false (sym b)
never_both Io Fabout a b = true≢false (sym b)
never_both Io wire a b = true≢false (sym a)
never_both Logic (CellInput i k) a b = true≢false (sym b)
never_both Logic Clock a b = true≢false (sym b)
never_both Logic ClockEnable a b = true≢false (sym b)
never_both Logic SetReset a b = true≢false (sym b)
never_both Logic FirstCarry a b = true≢false (sym b)
never_both Logic wire a b = true≢false (sym a)
never_both RamBottom (CellInput i k) a b = true≢false (sym a)
never_both RamBottom (Ram n) a b = never_ram RamBottom n a b
never_both RamBottom wire a b = true≢false (sym a)
never_both RamTop (CellInput i k) a b = true≢false (sym a)
never_both RamTop (Ram n) a b = never_ram RamTop n a b
never_both RamTop wire a b = true≢false (sym a)

module _ (parts : Parts) (law : IsLawful parts) (names : WireNamesAreRead) where
  -- ---- pins by their names
  input_name_of : (kind : TileKind) (wire : TileWire) → IsTileWire wire → is_input_of kind wire ≡ true → is_input_name kind (wire_name wire) ≡ true
  input_name_of kind wire within reads = ap (λ (o : Option TileWire). option_map_or (is_input_of kind) o false) (names.read wire within) ∙ reads

  output_name_of : (kind : TileKind) (wire : TileWire) → IsTileWire wire → is_output_of kind wire ≡ true → is_output_name kind (wire_name wire) ≡ true
  output_name_of kind wire within drives = ap (λ (o : Option TileWire). option_map_or (is_output_of kind) o false) (names.read wire within) ∙ drives

  input_pin : (t : TileAt) (wire : TileWire) (w : ℕ) → IsInput parts t wire w → IsPinOf parts w (placed_at t (wire_name wire))
  input_pin t wire w p = (
    law.names.found t (wire_name wire) w p.found,
    ap (λ (o : Option TileKind). is_pin_in o (wire_name wire)) p.kind_is
        ∙ or_left (is_input_name p.kind (wire_name wire)) (is_output_name p.kind (wire_name wire)) (input_name_of p.kind wire p.within p.reads),
  )

  output_pin : (t : TileAt) (wire : TileWire) (w : ℕ) → IsOutput parts t wire w → IsPinOf parts w (placed_at t (wire_name wire))
  output_pin t wire w p = (
    law.names.found t (wire_name wire) w p.found,
    ap (λ (o : Option TileKind). is_pin_in o (wire_name wire)) p.kind_is
        ∙ or_right (is_input_name p.kind (wire_name wire)) (is_output_name p.kind (wire_name wire)) (output_name_of p.kind wire p.within p.drives),
  )

  pub input_named : (t : TileAt) (wire : TileWire) (w : ℕ) → IsInput parts t wire w → has_input_name parts w ≡ true
  input_named t wire w p =
      let has = law.names.found t (wire_name wire) w p.found in
      Has_any (λ (n : PlacedName). is_input_in (kind_at parts n.tile) n.name) (names_of parts w) (placed_at t (wire_name wire)) has.0 has.1
      (ap (λ (o : Option TileKind). is_input_in o (wire_name wire)) p.kind_is ∙ input_name_of p.kind wire p.within p.reads)

  pub output_named : (t : TileAt) (wire : TileWire) (w : ℕ) → IsOutput parts t wire w → has_output_name parts w ≡ true
  output_named t wire w p =
      let has = law.names.found t (wire_name wire) w p.found in
      Has_any (λ (n : PlacedName). is_output_in (kind_at parts n.tile) n.name) (names_of parts w) (placed_at t (wire_name wire)) has.0 has.1
      (ap (λ (o : Option TileKind). is_output_in o (wire_name wire)) p.kind_is ∙ output_name_of p.kind wire p.within p.drives)

  -- ---- one name is of one wire of tiles
  same_name : (a b : TileWire) → IsTileWire a → IsTileWire b → wire_name a ≡ wire_name b → a ≡ b
  same_name a b wa wb e = same_Some a b (sym (names.read a wa) ∙ ap tile_wire e ∙ names.read b wb)

  pub inputs_same : (t u : TileAt) (a b : TileWire) (w : ℕ) → IsInput parts t a w → IsInput parts u b w → (a ≡ b) × (t ≡ u)
  inputs_same t u a b w p q =
      let one = law.pins.one_pin w (placed_at t (wire_name a)) (placed_at u (wire_name b)) (input_pin t a w p) (input_pin u b w q) in
      (same_name a b p.within q.within one.0, elim one.1 [ inl tile ↦ tile | inr global ↦ absurd (true≢false (sym global ∙ input_local p.kind a p.within p.reads)) ])

  pub in_or_out : (t u : TileAt) (a b : TileWire) (w : ℕ) → IsInput parts t a w → IsOutput parts u b w → ⊥
  in_or_out t u a b w p q =
      let one = law.pins.one_pin w (placed_at t (wire_name a)) (placed_at u (wire_name b)) (input_pin t a w p) (output_pin u b w q) in
      elim one.1 [ inl tile ↦ same tile (same_name a b p.within q.within one.0) | inr global ↦ true≢false (sym global ∙ input_local p.kind a p.within p.reads) ]
    where
      same : t ≡ u → a ≡ b → ⊥
      same tile wire =
          let kind : p.kind ≡ q.kind = same_Some p.kind q.kind (sym p.kind_is ∙ ap (kind_at parts) tile ∙ q.kind_is) in
          never_both p.kind a p.reads (ap (λ (k : TileKind). is_output_of k a) kind ∙ ap (is_output_of q.kind) wire ∙ q.drives)

  pub outputs_same : (t u : TileAt) (a b : TileWire) (w : ℕ) → IsOutput parts t a w → IsOutput parts u b w → (a ≡ b) × ((t ≡ u) ⊎ (is_global_name (wire_name a) ≡ true))
  outputs_same t u a b w p q =
      let one = law.pins.one_pin w (placed_at t (wire_name a)) (placed_at u (wire_name b)) (output_pin t a w p) (output_pin u b w q) in
      (same_name a b p.within q.within one.0, one.1)

  -- ---- a wire with an input name, or with an output name, is of a pin
  pub input_of : (w : ℕ) → has_input_name parts w ≡ true → (t : TileAt) × (wire : TileWire) × IsInput parts t wire w
  input_of w e =
      let got = any_Has (λ (n : PlacedName). is_input_in (kind_at parts n.tile) n.name) (names_of parts w) e in
      by got.0 got.1 (kind_at parts got.0.tile) refl got.2
    where
      told : (n : PlacedName) → Has (names_of parts w) n → (kind : TileKind) → kind_at parts n.tile ≡ Some kind → (o : Option TileWire) → tile_wire n.name ≡ o → option_map_or (is_input_of kind) o false ≡ true
          → (t : TileAt) × (wire : TileWire) × IsInput parts t wire w
      told n has kind is None f g = absurd (true≢false (sym g))
      told n has kind is (Some wire) f g =
          let name = subst (λ (o : Option TileWire). IfSome o (IsNamedWire n.name)) f (names.told n.name) in (
            n.tile,
            wire,
            record {
              kind = kind;
              kind_is = is;
              within = name.within;
              found = law.names.named n.tile (wire_name wire) w (subst (λ (x : List ℕ). HasName parts w (placed_at n.tile x)) name.named has);
              reads = g;
            },
          )

      by : (n : PlacedName) → Has (names_of parts w) n → (o : Option TileKind) → kind_at parts n.tile ≡ o → is_input_in o n.name ≡ true → (t : TileAt) × (wire : TileWire) × IsInput parts t wire w
      by n has None is f = absurd (true≢false (sym f))
      by n has (Some kind) is f = told n has kind is (tile_wire n.name) refl f
