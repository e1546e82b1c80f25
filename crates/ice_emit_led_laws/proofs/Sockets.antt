-- The wires of pads as pins of their tiles, and where the pins of block RAMs stand.
use Rattle.std.proofs.Common.{◌≡◌, ◌⊎◌, ℕ, ◌+◌, ◌-◌, ◌<◌, Bool, true, false, Option, Some, is_some, inl, inr, refl, sym, ap, ◌∙◌, true≢false, arith}
use Rattle.std.specs.Prelude.{◌&&◌, not, nat_lt, if◌then◌else◌}
use Rattle.std.proofs.lemmas.Bool.{and_parts, lt-ltb, le-ltb, ltb-true, ltb-false}
use Rattle.std.proofs.lemmas.Option.{same_Some}
use Rattle.ice_base.specs.declared.number.TileAt.{TileAt}
use Rattle.ice_chip.specs.Database.{Parts}
use Rattle.ice_chip.specs.Lookups.{kind_at, wire_named}
use Rattle.ice_chip.specs.Names.{is_global_name, pad_output_name}
use Rattle.ice_chip.specs.PinNames.{is_input_of, is_output_of}
use Rattle.ice_chip.specs.RamNames.{ram_name, is_read_out, has_ram_wire}
use Rattle.ice_chip.specs.WireNames.{IsTileWire, wire_name}
use Rattle.ice_chip.specs.declared.rows.Pad.{Pad}
use Rattle.ice_chip.specs.declared.rows.TileKind.{TileKind}
use Rattle.ice_chip.specs.declared.rows.TileKind.TheVariants.{Io, Logic, RamBottom, RamTop}
use Rattle.ice_chip_names.proofs.RamNamesRead.{ram_name_begins}
use Rattle.ice_chip_names.specs.declared.wire_names.TileWire.{TileWire}
use Rattle.ice_chip_names.specs.declared.wire_names.TileWire.TheVariants.{PadInput, PadOutput, Ram}
use Rattle.ice_chip_sockets.specs.Pins.{IsRamPin}
use Rattle.ice_chip_sockets.specs.Sockets.{given_wire, given_name, driven_wire, driven_name, has_io_wire, has_ram_wire_in, has_ram_pin, gives, is_driven}
use Rattle.ice_chip_sockets.proofs.SiteFacts.{site_facts, pin_tile}
use Rattle.ice_chip_sockets.proofs.SocketWires.{given_named, driven_named, driven_within, ram_wire, is_giving, is_driving}
use Rattle.ice_chip_laws.specs.Laws.{IsLawful}
use Rattle.ice_decode.specs.Pads.{pads}
use Rattle.ice_emit_defs.specs.Led.{IsSocket}
use Rattle.ice_emit_led_laws.specs.Pins.{IsInput, IsOutput}
use Rattle.ice_emit_led_laws.proofs.IoTiles.{io_pad}

-- ---- wires by the numbers of pads
abbrev pub is_given : TileWire → Bool
is_given (PadInput pio) = true
is_given (Ram n) = true
is_given wire = false

abbrev pub is_drive : TileWire → Bool
is_drive (PadOutput pio) = true
is_drive (Ram n) = true
is_drive wire = false

given_is : (pio : ℕ) → is_given (given_wire pio) ≡ true
given_is pio = by (nat_lt pio 2)
  where
    by : (b : Bool) → is_given (if b then PadInput pio else Ram (pio - 2)) ≡ true
    by true = refl
    by false = refl

driven_is : (pio : ℕ) → is_drive (driven_wire pio) ≡ true
driven_is pio = by (nat_lt pio 2)
  where
    by : (b : Bool) → is_drive (if b then PadOutput pio else Ram (pio - 2)) ≡ true
    by true = refl
    by false = refl

-- they are no other wires of tiles
pub given_other : (pio : ℕ) (wire : TileWire) → is_given wire ≡ false → given_wire pio ≡ wire → ⊥
given_other pio wire other same = true≢false (sym (given_is pio) ∙ ap is_given same ∙ other)

pub driven_other : (pio : ℕ) (wire : TileWire) → is_drive wire ≡ false → driven_wire pio ≡ wire → ⊥
driven_other pio wire other same = true≢false (sym (driven_is pio) ∙ ap is_drive same ∙ other)

input_number : (j k : ℕ) → PadInput j ≡ PadInput k → j ≡ k
input_number j k e = cc e

ram_number : (j k : ℕ) → Ram j ≡ Ram k → j ≡ k
ram_number j k e = cc e

-- different pads of a tile give their levels to different wires
pub given_number : (j k : ℕ) → given_wire j ≡ given_wire k → j ≡ k
given_number j k = by (nat_lt j 2) (nat_lt k 2) refl refl
  where
    by : (a b : Bool) → nat_lt j 2 ≡ a → nat_lt k 2 ≡ b → (if a then PadInput j else Ram (j - 2)) ≡ (if b then PadInput k else Ram (k - 2)) → j ≡ k
    by true true e f same = input_number j k same
    by true false e f same = absurd (cc same)
    by false true e f same = absurd (cc same)
    by false false e f same =
        (let number = ram_number (j - 2) (k - 2) same in
        let one = ltb-false j 2 e in
        let other = ltb-false k 2 f in
        omega (arith, number, one, other))

-- no global is one of them
pub given_local : (pio : ℕ) → IsTileWire (given_wire pio) → is_global_name (wire_name (given_wire pio)) ≡ false
given_local pio = by (nat_lt pio 2)
  where
    by : (b : Bool) → IsTileWire (if b then PadInput pio else Ram (pio - 2)) → is_global_name (wire_name (if b then PadInput pio else Ram (pio - 2))) ≡ false
    by true within = refl
    by false within = ap is_global_name (ram_name_begins (pio - 2) within)

-- a pad of an IO tile, and a pin of a block RAM
pub low_given : (pio : ℕ) → pio < 2 → given_wire pio ≡ PadInput pio
low_given pio lt = ap (λ b. if b then PadInput pio else Ram (pio - 2)) (lt-ltb pio 2 lt)

low_driven : (pio : ℕ) → pio < 2 → driven_wire pio ≡ PadOutput pio
low_driven pio lt = ap (λ b. if b then PadOutput pio else Ram (pio - 2)) (lt-ltb pio 2 lt)

behind : (n : ℕ) → n + 2 - 2 ≡ n
behind n = omega arith

pub pin_given : (n : ℕ) → given_wire (n + 2) ≡ Ram n
pin_given n = ap (λ b. if b then PadInput (n + 2) else Ram (n + 2 - 2)) (le-ltb (n + 2) 2 (omega arith)) ∙ ap Ram (behind n)

pin_driven : (n : ℕ) → driven_wire (n + 2) ≡ Ram n
pin_driven n = ap (λ b. if b then PadOutput (n + 2) else Ram (n + 2 - 2)) (le-ltb (n + 2) 2 (omega arith)) ∙ ap Ram (behind n)

-- the wire of a block RAM that drives a pad
pub driven_ram : (pio n : ℕ) → driven_wire pio ≡ Ram n → pio ≡ n + 2
driven_ram pio n = by (nat_lt pio 2) refl
  where
    by : (b : Bool) → nat_lt pio 2 ≡ b → (if b then PadOutput pio else Ram (pio - 2)) ≡ Ram n → pio ≡ n + 2
    by true e same = absurd (cc same)
    by false e same =
        (let number = ram_number (pio - 2) n same in
        let high = ltb-false pio 2 e in
        omega (arith, number, high))

-- ---- wires of block RAMs
pub ram_reads : (kind : TileKind) (n : ℕ) → is_input_of kind (Ram n) ≡ (has_ram_wire kind n && not (is_read_out n))
ram_reads Io n = refl
ram_reads Logic n = refl
ram_reads RamBottom n = refl
ram_reads RamTop n = refl

pub ram_drives : (kind : TileKind) (n : ℕ) → is_output_of kind (Ram n) ≡ (has_ram_wire kind n && is_read_out n)
ram_drives Io n = refl
ram_drives Logic n = refl
ram_drives RamBottom n = refl
ram_drives RamTop n = refl

pub stands_read : (kind : TileKind) (n : ℕ) → has_ram_wire kind n ≡ true → is_read_out n ≡ false → is_input_of kind (Ram n) ≡ true
stands_read kind n stands out = ram_reads kind n ∙ ap (λ b. b && not (is_read_out n)) stands ∙ ap not out

pub stands_driven : (kind : TileKind) (n : ℕ) → has_ram_wire kind n ≡ true → is_read_out n ≡ true → is_output_of kind (Ram n) ≡ true
stands_driven kind n stands out = ram_drives kind n ∙ ap (λ b. b && is_read_out n) stands ∙ out

module _ (parts : Parts) where
  -- ---- pins of tiles
  driven_at : (pad : Pad) (kind : TileKind) → kind_at parts pad.tile ≡ Some kind → IsTileWire (driven_wire pad.pio) → is_input_of kind (driven_wire pad.pio) ≡ true
      → (w : ℕ) → wire_named parts pad.tile (driven_name pad.pio) ≡ Some w → IsInput parts pad.tile (driven_wire pad.pio) w
  driven_at pad kind is within reads w found =
      record { kind = kind; kind_is = is; within = within; found = ap (wire_named parts pad.tile) (sym (driven_named pad.pio)) ∙ found; reads = reads }

  -- the wire that a pad gives its level to is an output of its tile, and the wire that drives one is an input
  pub given_output : (pad : Pad) (w : ℕ) → gives parts pad ≡ true → wire_named parts pad.tile (given_name pad.pio) ≡ Some w → IsOutput parts pad.tile (given_wire pad.pio) w
  given_output pad w e found =
      let is = is_giving parts pad e in
      record { kind = is.kind; kind_is = is.kind_is; within = is.within; found = ap (wire_named parts pad.tile) (sym (given_named pad.pio)) ∙ found; drives = is.drives }

  pub driven_input : (pad : Pad) (w : ℕ) → is_driven parts pad ≡ true → wire_named parts pad.tile (driven_name pad.pio) ≡ Some w → IsInput parts pad.tile (driven_wire pad.pio) w
  driven_input pad w e found = let is = is_driving parts pad e in driven_at pad is.kind is.kind_is is.within is.reads w found

  -- the tile of a wire of a block RAM
  pub ram_stands : (t : TileAt) (n w : ℕ) → has_ram_wire_in n (kind_at parts t) ≡ true → wire_named parts t (ram_name n) ≡ Some w → (kind : TileKind) × (kind_at parts t ≡ Some kind) × (has_ram_wire kind n ≡ true)
  ram_stands t n w stands found =
      let there = ram_wire parts t n (ap (λ b. b && is_some (wire_named parts t (ram_name n))) stands ∙ ap (λ (o : Option ℕ). is_some o) found) in
      (there.0, there.1, there.2)

  -- a pin of a block RAM that is driven is no enable of a clock
  pub driven_below : (pad : Pad) (n : ℕ) → is_driven parts pad ≡ true → pad.pio ≡ n + 2 → n < 74
  driven_below pad n driven pio = by (nat_lt pad.pio 2) refl driven
    where
      by : (b : Bool) → nat_lt pad.pio 2 ≡ b
          → (if b then has_io_wire parts pad.tile (pad_output_name pad.pio) else not (is_read_out (pad.pio - 2)) && nat_lt (pad.pio - 2) 74 && has_ram_pin parts pad.tile (pad.pio - 2)) ≡ true → n < 74
      by true low e = absurd (let lt = ltb-true pad.pio 2 low in omega (arith, lt, pio))
      by false high e =
          (let both = and_parts (not (is_read_out (pad.pio - 2)) && nat_lt (pad.pio - 2) 74) (has_ram_pin parts pad.tile (pad.pio - 2)) e in
          let lt = ltb-true (pad.pio - 2) 74 (and_parts (not (is_read_out (pad.pio - 2))) (nat_lt (pad.pio - 2) 74) both.0).1 in
          omega (arith, lt, pio))

  -- ---- pins of block RAMs
  pub record IsPin (pad : Pad) : Type 0 where
    pub number : ℕ
    pub below : number < 74
    pub pio : pad.pio ≡ number + 2
    pub kind : TileKind
    pub kind_is : kind_at parts pad.tile ≡ Some kind
    pub stands : has_ram_wire kind number ≡ true

  pub pin_of : (rams : ℕ) (pad : Pad) → IsRamPin parts rams pad → IsPin pad
  pin_of rams pad pin =
      let tile = pin_tile parts pin.site pin.number (site_facts parts pin.place pin.site pin.there) in
      record {
        number = pin.number;
        below = pin.below;
        pio = ap (λ (p : Pad). p.pio) pin.is_pin;
        kind = tile.kind;
        kind_is = ap (λ (p : Pad). kind_at parts p.tile) pin.is_pin ∙ tile.kind_is;
        stands = tile.stands;
      }

  -- they stand in no IO tile
  pub pin_elsewhere : (rams : ℕ) (pad : Pad) → IsRamPin parts rams pad → kind_at parts pad.tile ≡ Some Io → ⊥
  pin_elsewhere rams pad pin io =
      let is = pin_of rams pad pin in
      true≢false (sym is.stands ∙ ap (λ (k : TileKind). has_ram_wire k is.number) (same_Some is.kind Io (sym is.kind_is ∙ io)))

  -- ---- the wire that drives a socket
  abbrev pub IsSocketInput : Pad → Type 0
  IsSocketInput pad = (w : ℕ) → wire_named parts pad.tile (driven_name pad.pio) ≡ Some w → IsInput parts pad.tile (driven_wire pad.pio) w

  abbrev pub IsSocketOutput : Pad → Type 0
  IsSocketOutput pad = (w : ℕ) → wire_named parts pad.tile (driven_name pad.pio) ≡ Some w → IsOutput parts pad.tile (driven_wire pad.pio) w

  of_pin : (pad : Pad) → IsPin pad → IsSocketInput pad ⊎ IsSocketOutput pad
  of_pin pad pin = by (is_read_out pin.number) refl
    where
      wire : driven_wire pad.pio ≡ Ram pin.number
      wire = ap driven_wire pin.pio ∙ pin_driven pin.number

      within : IsTileWire (driven_wire pad.pio)
      within = driven_within pad.pio (let e = pin.pio in let lt = pin.below in omega (arith, e, lt))

      by : (b : Bool) → is_read_out pin.number ≡ b → IsSocketInput pad ⊎ IsSocketOutput pad
      by false out = inl (driven_at pad pin.kind pin.kind_is within (ap (is_input_of pin.kind) wire ∙ stands_read pin.kind pin.number pin.stands out))
      by true out =
          inr (λ w found. record {
            kind = pin.kind;
            kind_is = pin.kind_is;
            within = within;
            found = ap (wire_named parts pad.tile) (sym (driven_named pad.pio)) ∙ found;
            drives = ap (is_output_of pin.kind) wire ∙ stands_driven pin.kind pin.number pin.stands out;
          })

  -- it is an input of its tile, or what a block RAM reads out
  pub socket_pin : (law : IsLawful parts) (pad : Pad) → IsSocket parts pad → IsSocketInput pad ⊎ IsSocketOutput pad
  socket_pin law pad (inl of_chip) =
      (let io = io_pad parts law pad of_chip in
      let wire = low_driven pad.pio io.1 in
      inl (driven_at pad Io io.0 (driven_within pad.pio (let lt = io.1 in omega (arith, lt))) (ap (is_input_of Io) wire)))
  socket_pin law pad (inr ram) = of_pin pad (pin_of _ pad ram)
