-- The bits of a placed and routed design have no fault but a loop, which is a ring of globals.
use Rattle.std.proofs.Common.{◌≡◌, ◌⊎◌, ℕ, zero, suc, ◌+◌, ◌/◌, ◌<◌, Bool, true, false, cond, Option, None, Some, List, [], ◌∷◌, ◌++◌, length, take, find, inl, inr, refl, sym, ap, ◌∙◌, subst, true≢false, eqb-true, arith}
use Rattle.std.specs.Prelude.{◌&&◌, ◌||◌, ◌==◌, not, nat_eq, option_map, codes}
use Rattle.std.specs.Cmp.Lexicographic.{pointwise}
use Rattle.std.specs.List.{list_any}
use Rattle.std.specs.Option.{option_map_or}
use Rattle.std.proofs.lemmas.Bool.{and_parts, and_from, and_right, false_from_ne_true}
use Rattle.ice_base.specs.declared.number.TileAt.{TileAt}
use Rattle.ice_base.proofs.Booleans.{not_true}
use Rattle.ice_base_values.specs.Order.{At, Has}
use Rattle.ice_base_values.proofs.Members.{Has_any, any_Has}
use Rattle.ice_base_values.proofs.Together.{Has_head, Has_tail}
use Rattle.ice_chip.specs.Database.{SwitchGroup, SwitchRow, same_pad, same_tile}
use Rattle.ice_chip.specs.Lookups.{kind_at, names_of, wire_named}
use Rattle.ice_chip.specs.PinNames.{is_memory_name}
use Rattle.ice_chip.specs.Names.{pad_input_name}
use Rattle.ice_chip.specs.RamNames.{ram_name, ram_number, is_read_out, has_ram_wire, pin_at}
use Rattle.ice_chip.specs.declared.rows.Pad.{Pad}
use Rattle.ice_chip.specs.declared.rows.TileKind.{TileKind}
use Rattle.ice_chip.specs.declared.placed.PlacedName.{PlacedName}
use Rattle.ice_chip.proofs.Keys.{pad_same}
use Rattle.ice_chip_rams.specs.Sites.{ram_tile}
use Rattle.ice_chip_sockets.specs.Pins.{IsRamPin}
use Rattle.ice_base.proofs.Keys.{tile_self, nat_self}
use Rattle.ice_decode.specs.declared.driver.Switch.{Switch}
use Rattle.ice_decode.specs.Direct.{is_padin}
use Rattle.ice_decode.specs.Drivers.{driver, switches_on}
use Rattle.ice_decode.specs.Faults.{is_memory_output, is_output_part, is_input_type, is_wire_read, is_input_read, has_wrong_type, HasNoLoop}
use Rattle.ice_decode.specs.ForeignSources.{is_foreign_wire, is_foreign_name}
use Rattle.ice_decode.specs.FirstFaults.{or_else, first_of, contended_by, contention, foreign_source, wrong_pad}
use Rattle.ice_decode.specs.Rams.{is_given, is_in_use, leads_out}
use Rattle.ice_decode.specs.Pads.{pads, pin_type}
use Rattle.ice_decode.specs.Refusals.{IsFaultOf, IsFaultless, IsOfChip}
use Rattle.ice_decode.specs.declared.fault.DecodeFault.{DecodeFault}
use Rattle.ice_decode.specs.declared.fault.DecodeFault.TheVariants.{Contention, ForeignSource, ForeignFunction, ForeignExtra, ChipLoop, PinType, NoMemory}
use Rattle.ice_cells.specs.declared.design.DesignPad.{DesignPad}
use Rattle.ice_cells.specs.Formed.{IsPad}
use Rattle.ice_bits_rows.specs.Bundles.{is_private}
use Rattle.ice_bits_rows.specs.Sound.{is_alone, is_sound}
use Rattle.ice_bits_rows.specs.WireNames.{is_input_in, is_output_in, is_strange_in, has_strange_name}
use Rattle.ice_emit_rows_laws.specs.Wanted.{IsRowOf}
use Rattle.ice_emit_defs.specs.Led.{IsBare}
use Rattle.ice_emit_meaning_laws.specs.Feeds.{HasGlobalRing}
use Rattle.ice_emit_meaning_laws.proofs.Premises.{Premises}
use Rattle.ice_emit_meaning_laws.proofs.OtherWires.{entered_or_bare}
use Rattle.ice_emit_meaning_laws.proofs.DirectGlobals.{is_known}
use Rattle.ice_emit_meaning_laws.proofs.RamTiles.{used}
use Rattle.ice_emit_meaning_laws.proofs.RamWires.{read_out_named}
use Rattle.ice_emit_meaning_laws.proofs.Read.{item_there, item_beside, low_or_pin}
use Rattle.ice_emit_meaning_laws.proofs.Rings.{ring_of}

-- ---- lists
first_of_none : {A : Type 0} (f : ℕ → Option A) → ((k : ℕ) → f k ≡ None) → (k more : ℕ) → first_of f k more ≡ None
first_of_none f none k zero = refl
first_of_none f none k (suc more) = ap (λ o. or_else o (first_of f (k + 1) more)) (none k) ∙ first_of_none f none (k + 1) more

pub find_none : {X : Type 0} (test : X → Bool) (xs : List X) → ((x : X) → Has xs x → test x ≡ false) → find test xs ≡ None
find_none test [] none = refl
find_none test (x ∷ xs) none = ap (λ b. cond b (Some x) (find test xs)) (none x (Has_head x xs)) ∙ find_none test xs (λ y has. none y (Has_tail x y xs has))

-- what begins with two texts begins with the first
begins : (first second name : List ℕ) → pointwise nat_eq (first ++ second) (take (length (first ++ second)) name) ≡ true → pointwise nat_eq first (take (length first) name) ≡ true
begins [] second name e = refl
begins (a ∷ first) second [] e = absurd (true≢false (sym e))
begins (a ∷ first) second (b ∷ name) e =
    let both = and_parts (nat_eq a b) (pointwise nat_eq (first ++ second) (take (length (first ++ second)) name)) e in
    and_from (nat_eq a b) (pointwise nat_eq first (take (length first) name)) both.0 (begins first second name both.1)

memory_named : (name : List ℕ) → is_memory_output name ≡ true → is_memory_name name ≡ true
memory_named name e = begins (codes "ram/") (codes "RDATA_") name e

pad_self : (pad : Pad) → same_pad pad pad ≡ true
pad_self pad = and_from (same_tile pad.tile pad.tile) (pad.pio == pad.pio) (tile_self pad.tile) (nat_self pad.pio)

module _ (g : Premises) where
  -- a pad is that of a port, or of none
  pub port_or_none : (pad : Pad) → ((k : ℕ) × At g.plan.ports k pad) ⊎ (Has g.plan.ports pad → ⊥)
  port_or_none pad = by (list_any (same_pad pad) g.plan.ports) refl
    where
      by : (b : Bool) → list_any (same_pad pad) g.plan.ports ≡ b → ((k : ℕ) × At g.plan.ports k pad) ⊎ (Has g.plan.ports pad → ⊥)
      by true e = let found = any_Has (same_pad pad) g.plan.ports e in inl (subst (λ (p : Pad). Has g.plan.ports p) (sym (pad_same pad found.0 found.2)) found.1)
      by false e = inr (λ has. true≢false (sym (Has_any (same_pad pad) g.plan.ports pad has.0 has.1 (pad_self pad)) ∙ e))

  -- ---- contention
  uncontended_at : (w : ℕ) → contended_by w (driver g.parts g.bits w) ≡ None
  uncontended_at w = by (entered_or_bare g.wanted w)
    where
      by : ((s : Switch) × Has g.wanted s × (s.target.0 ≡ w)) ⊎ IsBare g.wanted w → contended_by w (driver g.parts g.bits w) ≡ None
      by (inl (s, has, e)) = ap (λ x. contended_by w (driver g.parts g.bits x)) (sym e) ∙ ap (contended_by w) (g.wired.entered s has)
      by (inr bare) = ap (contended_by w) (g.wired.bare w bare)

  uncontended : contention g.parts g.bits ≡ None
  uncontended = first_of_none (λ w. contended_by w (driver g.parts g.bits w)) uncontended_at 0 g.parts.wires

  -- ---- sources of memories
  none_strange : (s : Switch) → Has g.wanted s → has_strange_name g.parts s.source.0 ≡ false
  none_strange s has = by (g.led.rows.rows s has)
    where
      by : (h : SwitchGroup) × (r : SwitchRow) × IsRowOf g.parts s h r × (is_sound g.parts h s.row.0 r ≡ true) → has_strange_name g.parts s.source.0 ≡ false
      by (h, r, row, sound) =
          let one = and_parts (is_private g.parts h.tile h.wire && not (has_strange_name g.parts r.source)) (is_alone g.parts.groups h s.row.0 r) sound in
          let two = and_parts (is_private g.parts h.tile h.wire) (not (has_strange_name g.parts r.source)) one.0 in
          ap (has_strange_name g.parts) row.source ∙ not_true (has_strange_name g.parts r.source) two.1

  -- a name of what a memory reads out is that of a pin
  is_pin_named : (s : Switch) → Has g.wanted s → (m : PlacedName) → Has (names_of g.parts s.source.0) m → is_memory_output m.name ≡ true
      → (is_input_in (kind_at g.parts m.tile) m.name || is_output_in (kind_at g.parts m.tile) m.name) ≡ true
  is_pin_named s has m named begins = by (is_input_in (kind_at g.parts m.tile) m.name || is_output_in (kind_at g.parts m.tile) m.name) refl
    where
      by : (b : Bool) → (is_input_in (kind_at g.parts m.tile) m.name || is_output_in (kind_at g.parts m.tile) m.name) ≡ b
          → (is_input_in (kind_at g.parts m.tile) m.name || is_output_in (kind_at g.parts m.tile) m.name) ≡ true
      by true is = is
      by false is =
          let strange = and_from (is_memory_name m.name) (not (is_input_in (kind_at g.parts m.tile) m.name || is_output_in (kind_at g.parts m.tile) m.name)) (memory_named m.name begins) (ap not is) in
          absurd
          (true≢false (sym (Has_any (λ (n : PlacedName). is_strange_in (kind_at g.parts n.tile) n.name) (names_of g.parts s.source.0) m named.0 named.1 strange) ∙ none_strange s has))

  -- the block RAM of a port's pin is in use
  pin_used : (t : TileAt) (n : ℕ) → Has g.plan.ports (pin_at t n) → is_in_use g.parts g.bits t ≡ true
  pin_used t n has = elim (low_or_pin g has.0 (pin_at t n) has.1) [
    | inl low ↦ absurd (let less : n + 2 < 2 = low in omega (arith, less))
    | inr pin ↦ of_pin pin
  ]
    where
      of_pin : IsRamPin g.parts g.placed.rams (pin_at t n) → is_in_use g.parts g.bits t ≡ true
      of_pin pin =
          let enough = g.enough in
          let first = pin.first in
          let ram = item_there g.rams pin.place (omega (arith, enough, first)) in
          let on = g.are_set.rams_set.on pin.place pin.site ram.0 pin.there ram.1 in
          let tile : t ≡ ram_tile pin.site pin.number = ap (λ (p : Pad). p.tile) pin.is_pin in
          ap (is_in_use g.parts g.bits) tile ∙ used g.parts g.bits pin.place pin.site pin.number pin.there on

  -- what a memory reads out and a row leaves is what a block RAM in use reads out
  given : (s : Switch) → Has g.wanted s → (m : PlacedName) → Has (names_of g.parts s.source.0) m → is_memory_output m.name ≡ true → is_given g.parts g.bits m ≡ true
  given s has m named begins = by (kind_at g.parts m.tile) refl (is_pin_named s has m named begins)
    where
      by : (o : Option TileKind) → kind_at g.parts m.tile ≡ o → (is_input_in (kind_at g.parts m.tile) m.name || is_output_in (kind_at g.parts m.tile) m.name) ≡ true → is_given g.parts g.bits m ≡ true
      by None at pin = absurd (true≢false (sym pin ∙ ap (λ (k : Option TileKind). is_input_in k m.name || is_output_in k m.name) at))
      by (Some kind) at pin =
          let out = read_out_named kind m.name begins (sym (ap (λ (k : Option TileKind). is_input_in k m.name || is_output_in k m.name) at) ∙ pin) in
          let wire : wire_named g.parts m.tile (ram_name out.wire) ≡ Some s.source.0 = ap (wire_named g.parts m.tile) (sym out.named) ∙ g.lawful.names.named m.tile m.name s.source.0 named in
          let port = g.led.outputs s m.tile out.wire has out.out wire in
          let leads : option_map_or (leads_out (kind_at g.parts m.tile)) (ram_number m.name) false ≡ true =
          (λ i. option_map_or (leads_out (at i)) (out.number i) false) ∙ and_from (has_ram_wire kind out.wire) (is_read_out out.wire) out.has out.out in
          and_from (option_map_or (leads_out (kind_at g.parts m.tile)) (ram_number m.name) false) (is_in_use g.parts g.bits m.tile) leads (pin_used m.tile out.wire port)

  not_foreign : (s : Switch) → Has (switches_on g.bits g.parts.groups) s → is_foreign_wire g.parts g.bits s.source.0 ≡ false
  not_foreign s on =
      false_from_ne_true (is_foreign_wire g.parts g.bits s.source.0)
      (λ e. let found = any_Has (is_foreign_name g.parts g.bits) (names_of g.parts s.source.0) e in
      let both = and_parts (is_memory_output found.0.name) (not (is_given g.parts g.bits found.0)) found.2 in
      true≢false (sym (given s (g.wired.on s on) found.0 found.1 both.0) ∙ not_true (is_given g.parts g.bits found.0) both.1))

  sourced : foreign_source g.parts g.bits ≡ None
  sourced =
      ap (option_map (λ (s : Switch). s.source.0)) (find_none (λ (s : Switch). is_foreign_wire g.parts g.bits s.source.0) (switches_on g.bits g.parts.groups) not_foreign)

  -- ---- types of pins
  of_type : (pad : Pad) (n : ℕ) → pin_type g.parts g.bits pad ≡ n → is_output_part (n / 4) ≡ true → is_input_type n ≡ true → has_wrong_type g.parts g.bits pad ≡ false
  of_type pad n is part low =
      ap (λ m. not (is_output_part (m / 4)) || (is_input_read g.parts g.bits pad && not (is_input_type m))) is
      ∙ (λ i. not (part i) || (is_input_read g.parts g.bits pad && not (low i))) ∙ and_right (is_input_read g.parts g.bits pad) false refl

  ported : (port : DesignPad) (pad : Pad) → IsPad port → pin_type g.parts g.bits pad ≡ port.pin_type → has_wrong_type g.parts g.bits pad ≡ false
  ported port pad (inl one) e = of_type pad 1 (e ∙ one.0) refl refl
  ported port pad (inr (inl two)) e = of_type pad 25 (e ∙ two.0) refl refl
  ported port pad (inr (inr three)) e = of_type pad 41 (e ∙ three) refl refl

  -- no row leaves the input of a pad of no port
  unread : (pad : Pad) → Has (pads g.parts) pad → (Has g.plan.ports pad → ⊥) → is_input_read g.parts g.bits pad ≡ false
  unread pad there none = by (wire_named g.parts pad.tile (pad_input_name pad.pio)) refl
    where
      by : (o : Option ℕ) → wire_named g.parts pad.tile (pad_input_name pad.pio) ≡ o → is_wire_read g.parts g.bits o ≡ false
      by None e = refl
      by (Some w) e =
          false_from_ne_true (list_any (λ (s : Switch). s.source.0 == w) (switches_on g.bits g.parts.groups))
          (λ f. let found = any_Has (λ (s : Switch). s.source.0 == w) (switches_on g.bits g.parts.groups) f in
          let named : wire_named g.parts pad.tile (pad_input_name pad.pio) ≡ Some found.0.source.0 = e ∙ ap (λ (x : ℕ). Some x) (sym (eqb-true found.0.source.0 w found.2)) in
          let got = g.led.inputs found.0 pad (g.wired.on found.0 found.1) there named in
          none (got.0, got.2))

  typed : (pad : Pad) → Has (pads g.parts) pad → has_wrong_type g.parts g.bits pad ≡ false
  typed pad there = by (port_or_none pad)
    where
      by : ((k : ℕ) × At g.plan.ports k pad) ⊎ (Has g.plan.ports pad → ⊥) → has_wrong_type g.parts g.bits pad ≡ false
      by (inl (k, at)) =
          let port = item_beside g.plan.ports g.plan.design.pads k pad g.placed.pads.ports at in
          ported port.0 pad (g.placed.formed.pads k port.0 port.1) (g.are_set.types k pad port.0 at port.1 there)
      by (inr none) =
          let zero_type = g.are_set.untyped pad there none in
          let off = unread pad there none in
          ap (λ m. not (is_output_part (m / 4)) || (is_input_read g.parts g.bits pad && not (is_input_type m))) zero_type ∙ ap (λ b. false || (b && false)) off

  -- ---- no fault but a loop
  of_chip : IsOfChip g.parts g.bits g.extras
  of_chip = record { uncontended = uncontended; sources = sourced; functions = g.are_set.own; extras_known = find_none (λ e. not (is_padin g.parts e)) g.extras (λ e has. ap not (is_known g e has)) }

  all_typed : wrong_pad g.parts g.bits ≡ None
  all_typed = find_none (has_wrong_type g.parts g.bits) (pads g.parts) typed

  pub faultless : HasNoLoop g.parts g.bits g.extras → IsFaultless g.parts g.bits g.extras
  faultless loopless = record { of_chip = of_chip; loopless = loopless; types = all_typed }

  pub faulty : (fault : DecodeFault) → IsFaultOf g.parts g.bits g.extras fault → (fault ≡ NoMemory → ⊥) → HasGlobalRing g.parts
  faulty (Contention wire rows) is known = absurd (let none = of_chip.uncontended in cc (is, none))
  faulty (ForeignSource wire) is known = absurd (let first = is.first in let none = of_chip.sources in cc (first, none))
  faulty (ForeignFunction tile line) is known = absurd (let first = is.first in let none = of_chip.functions in cc (first, none))
  faulty (ForeignExtra extra) is known = absurd (let first = is.first in let none = of_chip.extras_known in cc (first, none))
  faulty (ChipLoop wires) is known = ring_of g is.is_loop.cycle is.is_loop.closes
  faulty (PinType pad value) is known = absurd (let first = is.first in let none = all_typed in cc (first, none))
  faulty NoMemory is known = absurd (known refl)
