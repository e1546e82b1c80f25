-- The wires of pads, and the tiles in which they stand.
use Rattle.std.proofs.Common.{◌≡◌, ℕ, ◌-◌, ◌<◌, Bool, true, false, Option, None, Some, is_some, List, refl, sym, ap, ◌∙◌, subst, true≢false, arith}
use Rattle.std.specs.Prelude.{◌&&◌, not, nat_lt, if◌then◌else◌}
use Rattle.std.proofs.lemmas.Bool.{and_parts, ltb-true, ltb-false}
use Rattle.ice_base.specs.declared.number.TileAt.{TileAt}
use Rattle.ice_chip.specs.Database.{Parts}
use Rattle.ice_chip.specs.Lookups.{kind_at, wire_named}
use Rattle.ice_chip.specs.Names.{pad_input_name, pad_output_name}
use Rattle.ice_chip.specs.PinNames.{is_input_of, is_output_of}
use Rattle.ice_chip.specs.RamNames.{ram_name, is_read_out, has_ram_wire}
use Rattle.ice_chip.specs.WireNames.{IsTileWire, wire_name}
use Rattle.ice_chip.specs.declared.rows.Pad.{Pad}
use Rattle.ice_chip.specs.declared.rows.TileKind.{TileKind}
use Rattle.ice_chip.specs.declared.rows.TileKind.TheVariants.{Io, Logic, RamBottom, RamTop}
use Rattle.ice_chip_names.specs.declared.wire_names.TileWire.TheVariants.{PadInput, PadOutput, Ram}
use Rattle.ice_chip_sockets.specs.Sockets.{given_wire, given_name, driven_wire, driven_name, is_io_at, is_io_tile, has_io_wire, has_ram_wire_in, has_ram_pin, gives, is_driven}

-- ---- names
pub given_named : (pio : ℕ) → given_name pio ≡ wire_name (given_wire pio)
given_named pio = by (nat_lt pio 2)
  where
    by : (b : Bool) → (if b then pad_input_name pio else ram_name (pio - 2)) ≡ wire_name (if b then PadInput pio else Ram (pio - 2))
    by true = refl
    by false = refl

pub driven_named : (pio : ℕ) → driven_name pio ≡ wire_name (driven_wire pio)
driven_named pio = by (nat_lt pio 2)
  where
    by : (b : Bool) → (if b then pad_output_name pio else ram_name (pio - 2)) ≡ wire_name (if b then PadOutput pio else Ram (pio - 2))
    by true = refl
    by false = refl

-- two pads of an IO tile, and 76 wires of a block RAM
pub given_within : (pio : ℕ) → pio < 78 → IsTileWire (given_wire pio)
given_within pio lt = by (nat_lt pio 2) refl
  where
    by : (b : Bool) → nat_lt pio 2 ≡ b → IsTileWire (if b then PadInput pio else Ram (pio - 2))
    by true is = ltb-true pio 2 is
    by false is = let high = ltb-false pio 2 is in omega (arith, high, lt)

pub driven_within : (pio : ℕ) → pio < 78 → IsTileWire (driven_wire pio)
driven_within pio lt = by (nat_lt pio 2) refl
  where
    by : (b : Bool) → nat_lt pio 2 ≡ b → IsTileWire (if b then PadOutput pio else Ram (pio - 2))
    by true is = ltb-true pio 2 is
    by false is = let high = ltb-false pio 2 is in omega (arith, high, lt)

-- ---- tiles with these wires
-- the tile drives the wire that the pad gives its level to
pub record IsGiving (parts : Parts) (pad : Pad) : Type 0 where
  pub kind : TileKind
  pub kind_is : kind_at parts pad.tile ≡ Some kind
  pub within : IsTileWire (given_wire pad.pio)
  pub drives : is_output_of kind (given_wire pad.pio) ≡ true
  pub wire : ℕ
  pub found : wire_named parts pad.tile (given_name pad.pio) ≡ Some wire

-- the tile reads the wire that drives the pad
pub record IsDriving (parts : Parts) (pad : Pad) : Type 0 where
  pub kind : TileKind
  pub kind_is : kind_at parts pad.tile ≡ Some kind
  pub within : IsTileWire (driven_wire pad.pio)
  pub reads : is_input_of kind (driven_wire pad.pio) ≡ true
  pub wire : ℕ
  pub found : wire_named parts pad.tile (driven_name pad.pio) ≡ Some wire

some_there : (o : Option ℕ) → is_some o ≡ true → (w : ℕ) × (o ≡ Some w)
some_there None e = absurd (true≢false (sym e))
some_there (Some w) e = (w, refl)

pub io_there : (o : Option TileKind) → is_io_at o ≡ true → o ≡ Some Io
io_there None e = absurd (true≢false (sym e))
io_there (Some Io) e = refl
io_there (Some Logic) e = absurd (true≢false (sym e))
io_there (Some RamBottom) e = absurd (true≢false (sym e))
io_there (Some RamTop) e = absurd (true≢false (sym e))

pub ram_there : (n : ℕ) (o : Option TileKind) → has_ram_wire_in n o ≡ true → (kind : TileKind) × (o ≡ Some kind) × (has_ram_wire kind n ≡ true)
ram_there n None e = absurd (true≢false (sym e))
ram_there n (Some kind) e = (kind, refl, e)

-- an IO tile with the wire
pub io_wire : (parts : Parts) (t : TileAt) (name : List ℕ) → has_io_wire parts t name ≡ true → (kind_at parts t ≡ Some Io) × ((w : ℕ) × (wire_named parts t name ≡ Some w))
io_wire parts t name e =
    let both = and_parts (is_io_tile parts t) (is_some (wire_named parts t name)) e in
    (io_there (kind_at parts t) both.0, some_there (wire_named parts t name) both.1)

-- a tile of a block RAM with the wire
pub ram_wire : (parts : Parts) (t : TileAt) (n : ℕ) → has_ram_pin parts t n ≡ true
    → (kind : TileKind) × (kind_at parts t ≡ Some kind) × (has_ram_wire kind n ≡ true) × ((w : ℕ) × (wire_named parts t (ram_name n) ≡ Some w))
ram_wire parts t n e =
    let both = and_parts (has_ram_wire_in n (kind_at parts t)) (is_some (wire_named parts t (ram_name n))) e in
    let there = ram_there n (kind_at parts t) both.0 in
    (there.0, there.1, there.2, some_there (wire_named parts t (ram_name n)) both.1)

both_so : (a b : Bool) → a ≡ true → b ≡ true → (a && b) ≡ true
both_so true b e f = f
both_so false b e f = absurd (true≢false (sym e))

giving : (parts : Parts) (pad : Pad) (low : Bool) → nat_lt pad.pio 2 ≡ low
    → (if low then has_io_wire parts pad.tile (pad_input_name pad.pio) else is_read_out (pad.pio - 2) && has_ram_pin parts pad.tile (pad.pio - 2)) ≡ true
    → IsGiving parts pad
giving parts pad true is e =
    let there = io_wire parts pad.tile (pad_input_name pad.pio) e in
    record {
      kind = Io;
      kind_is = there.0;
      within = subst (λ b. IsTileWire (if b then PadInput pad.pio else Ram (pad.pio - 2))) (sym is) (ltb-true pad.pio 2 is);
      drives = ap (λ b. is_output_of Io (if b then PadInput pad.pio else Ram (pad.pio - 2))) is;
      wire = there.1.0;
      found = ap (λ b. wire_named parts pad.tile (if b then pad_input_name pad.pio else ram_name (pad.pio - 2))) is ∙ there.1.1;
    }
giving parts pad false is e =
    let both = and_parts (is_read_out (pad.pio - 2)) (has_ram_pin parts pad.tile (pad.pio - 2)) e in
    let there = ram_wire parts pad.tile (pad.pio - 2) both.1 in
    let few : pad.pio - 2 < 16 = ltb-true (pad.pio - 2) 16 both.0 in
    let below : pad.pio - 2 < 76 = omega (arith, few) in
    record {
      kind = there.0;
      kind_is = there.1;
      within = subst (λ b. IsTileWire (if b then PadInput pad.pio else Ram (pad.pio - 2))) (sym is) below;
      drives = ap (λ b. is_output_of there.0 (if b then PadInput pad.pio else Ram (pad.pio - 2))) is ∙ drives_ram there.0 (pad.pio - 2) there.2 both.0;
      wire = there.3.0;
      found = ap (λ b. wire_named parts pad.tile (if b then pad_input_name pad.pio else ram_name (pad.pio - 2))) is ∙ there.3.1;
    }
  where
    drives_ram : (kind : TileKind) (n : ℕ) → has_ram_wire kind n ≡ true → is_read_out n ≡ true → is_output_of kind (Ram n) ≡ true
    drives_ram Io n stands out = absurd (true≢false (sym stands))
    drives_ram Logic n stands out = absurd (true≢false (sym stands))
    drives_ram RamBottom n stands out = both_so (has_ram_wire RamBottom n) (is_read_out n) stands out
    drives_ram RamTop n stands out = both_so (has_ram_wire RamTop n) (is_read_out n) stands out

pub is_giving : (parts : Parts) (pad : Pad) → gives parts pad ≡ true → IsGiving parts pad
is_giving parts pad e = giving parts pad (nat_lt pad.pio 2) refl e

driving : (parts : Parts) (pad : Pad) (low : Bool) → nat_lt pad.pio 2 ≡ low
    → (if low then has_io_wire parts pad.tile (pad_output_name pad.pio) else not (is_read_out (pad.pio - 2)) && nat_lt (pad.pio - 2) 74 && has_ram_pin parts pad.tile (pad.pio - 2)) ≡ true
    → IsDriving parts pad
driving parts pad true is e =
    let there = io_wire parts pad.tile (pad_output_name pad.pio) e in
    record {
      kind = Io;
      kind_is = there.0;
      within = subst (λ b. IsTileWire (if b then PadOutput pad.pio else Ram (pad.pio - 2))) (sym is) (ltb-true pad.pio 2 is);
      reads = ap (λ b. is_input_of Io (if b then PadOutput pad.pio else Ram (pad.pio - 2))) is;
      wire = there.1.0;
      found = ap (λ b. wire_named parts pad.tile (if b then pad_output_name pad.pio else ram_name (pad.pio - 2))) is ∙ there.1.1;
    }
driving parts pad false is e =
    let both = and_parts (not (is_read_out (pad.pio - 2)) && nat_lt (pad.pio - 2) 74) (has_ram_pin parts pad.tile (pad.pio - 2)) e in
    let two = and_parts (not (is_read_out (pad.pio - 2))) (nat_lt (pad.pio - 2) 74) both.0 in
    let there = ram_wire parts pad.tile (pad.pio - 2) both.1 in
    let few : pad.pio - 2 < 74 = ltb-true (pad.pio - 2) 74 two.1 in
    let below : pad.pio - 2 < 76 = omega (arith, few) in
    record {
      kind = there.0;
      kind_is = there.1;
      within = subst (λ b. IsTileWire (if b then PadOutput pad.pio else Ram (pad.pio - 2))) (sym is) below;
      reads = ap (λ b. is_input_of there.0 (if b then PadOutput pad.pio else Ram (pad.pio - 2))) is ∙ reads_ram there.0 (pad.pio - 2) there.2 two.0;
      wire = there.3.0;
      found = ap (λ b. wire_named parts pad.tile (if b then pad_output_name pad.pio else ram_name (pad.pio - 2))) is ∙ there.3.1;
    }
  where
    reads_ram : (kind : TileKind) (n : ℕ) → has_ram_wire kind n ≡ true → not (is_read_out n) ≡ true → is_input_of kind (Ram n) ≡ true
    reads_ram Io n stands read = absurd (true≢false (sym stands))
    reads_ram Logic n stands read = absurd (true≢false (sym stands))
    reads_ram RamBottom n stands read = both_so (has_ram_wire RamBottom n) (not (is_read_out n)) stands read
    reads_ram RamTop n stands read = both_so (has_ram_wire RamTop n) (not (is_read_out n)) stands read

pub is_driving : (parts : Parts) (pad : Pad) → is_driven parts pad ≡ true → IsDriving parts pad
is_driving parts pad e = driving parts pad (nat_lt pad.pio 2) refl e
