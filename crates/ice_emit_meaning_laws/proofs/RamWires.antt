-- What the wires of block RAMs are, by their names.
use Rattle.std.proofs.Common.{◌≡◌, ℕ, ◌<◌, Bool, true, false, cond, Option, None, Some, List, [], ◌∷◌, drop, take, refl, sym, ap, ◌∙◌, true≢false}
use Rattle.std.specs.Prelude.{◌&&◌, ◌||◌, not, nat_eq, codes, option_map}
use Rattle.std.specs.Cmp.Lexicographic.{pointwise}
use Rattle.std.specs.Option.{option_map_or, option_and_then, option_or}
use Rattle.std.proofs.lemmas.Bool.{and_parts, and_from}
use Rattle.ice_base.specs.declared.number.TileAt.{TileAt}
use Rattle.ice_base.proofs.Keys.{nat_same}
use Rattle.ice_chip.specs.Database.{Parts}
use Rattle.ice_chip.specs.Lookups.{kind_at, wire_named}
use Rattle.ice_chip.specs.PinNames.{is_input_name, is_input_of, is_output_name, is_output_of}
use Rattle.ice_chip_names.specs.RamNames.{ram_names}
use Rattle.ice_chip.specs.RamNames.{ram_name, ram_number, is_read_out, is_clock_enable, has_ram_wire, pin_at}
use Rattle.ice_chip.specs.WireNames.{tile_wire}
use Rattle.ice_chip.specs.declared.rows.TileKind.{TileKind}
use Rattle.ice_chip.specs.declared.rows.TileKind.TheVariants.{Io, Logic, RamBottom, RamTop}
use Rattle.ice_chip_names.proofs.Prefixes.{each_number, number_passes}
use Rattle.ice_chip_names.proofs.RamNamesRead.{ram_name_begins, ram_name_read, ram_number_told}
use Rattle.ice_chip_names.proofs.WireNamesRead.{ram_wire_named}
use Rattle.ice_chip_names.specs.declared.wire_names.TileWire.{TileWire}
use Rattle.ice_chip_names.specs.declared.wire_names.TileWire.TheVariants as wire
use Rattle.ice_chip_laws.specs.Laws.{IsLawful}
use Rattle.ice_chip_laws.specs.Pins.{is_pin_in}
use Rattle.ice_decode.specs.declared.role.Role.{Role}
use Rattle.ice_decode.specs.declared.role.Role.TheVariants.{Plain, RamOutput, ClockEnable}
use Rattle.ice_decode.specs.Drivers.{global_role, ram_wire_role, role_in, role_or, role_of}
use Rattle.ice_decode.specs.Faults.{is_memory_output}
use Rattle.ice_decode.proofs.PinRoles.{pin_role}

-- ---- in a tile of its kind the name of a wire is a pin's
pin_of_kind : (kind : TileKind) (n : ℕ) → has_ram_wire kind n ≡ true → (is_input_of kind (wire.Ram n) || is_output_of kind (wire.Ram n)) ≡ true
pin_of_kind Io n has = absurd (true≢false (sym has))
pin_of_kind Logic n has = absurd (true≢false (sym has))
pin_of_kind RamBottom n has = by (is_read_out n)
  where
    by : (b : Bool) → ((has_ram_wire RamBottom n && not b) || (has_ram_wire RamBottom n && b)) ≡ true
    by true = ap (λ h. (h && false) || (h && true)) has
    by false = ap (λ h. (h && true) || (h && false)) has
pin_of_kind RamTop n has = by (is_read_out n)
  where
    by : (b : Bool) → ((has_ram_wire RamTop n && not b) || (has_ram_wire RamTop n && b)) ≡ true
    by true = ap (λ h. (h && false) || (h && true)) has
    by false = ap (λ h. (h && true) || (h && false)) has

is_pin : (kind : TileKind) (n : ℕ) → n < 76 → has_ram_wire kind n ≡ true → is_pin_in (Some kind) (ram_name n) ≡ true
is_pin kind n lt has =
    ap (λ (o : Option TileWire). option_map_or (is_input_of kind) o false || option_map_or (is_output_of kind) o false) (ram_wire_named (ram_name n) n (ram_name_read n lt)) ∙ pin_of_kind kind n has

-- ---- its role
no_global : (n : ℕ) → n < 76 → global_role (ram_name n) ≡ None
no_global n lt = ap global_role (ram_name_begins n lt) ∙ of_name (drop 1 (ram_name n))
  where
    of_name : (rest : List ℕ) → global_role (114 ∷ rest) ≡ None
    of_name rest = refl

or_none : (o : Option Role) → option_or o None ≡ o
or_none None = refl
or_none (Some r) = refl

role_here : (t : TileAt) (kind : TileKind) (n : ℕ) → n < 76 → has_ram_wire kind n ≡ true → role_in t (Some kind) (ram_name n) ≡ ram_wire_role t kind n
role_here t Io n lt has = absurd (true≢false (sym has))
role_here t Logic n lt has = absurd (true≢false (sym has))
role_here t RamBottom n lt has =
    (λ i. option_or (option_and_then (ram_wire_role t RamBottom) (ram_name_read n lt i)) (no_global n lt i)) ∙ or_none (ram_wire_role t RamBottom n)
role_here t RamTop n lt has =
    (λ i. option_or (option_and_then (ram_wire_role t RamTop) (ram_name_read n lt i)) (no_global n lt i)) ∙ or_none (ram_wire_role t RamTop n)

module _ (parts : Parts) (lawful : IsLawful parts) (t : TileAt) (kind : TileKind) (at : kind_at parts t ≡ Some kind) (w : ℕ) where
  role_there : (n : ℕ) → n < 76 → has_ram_wire kind n ≡ true → wire_named parts t (ram_name n) ≡ Some w → role_of parts w ≡ role_or (ram_wire_role t kind n) Plain
  role_there n lt has named =
      pin_role parts lawful.names lawful.pins t (ram_name n) w named (ap (λ k. is_pin_in k (ram_name n)) at ∙ is_pin kind n lt has)
      ∙ ap (λ k. role_or (role_in t k (ram_name n)) Plain) at
      ∙ ap (λ r. role_or r Plain) (role_here t kind n lt has)

  -- what a block RAM reads out
  pub read_out_is : (n : ℕ) → n < 76 → has_ram_wire kind n ≡ true → is_read_out n ≡ true → wire_named parts t (ram_name n) ≡ Some w → role_of parts w ≡ RamOutput (pin_at t n)
  read_out_is n lt has out named =
      role_there n lt has named
      ∙ ap (λ b. role_or (cond b (Some (RamOutput (pin_at t n))) (cond (has_ram_wire kind n && is_clock_enable n) (Some ClockEnable) None)) Plain)
      (and_from (has_ram_wire kind n) (is_read_out n) has out)

  -- the enable of a clock
  pub clock_enable_is : (n : ℕ) → n < 76 → has_ram_wire kind n ≡ true → is_read_out n ≡ false → is_clock_enable n ≡ true → wire_named parts t (ram_name n) ≡ Some w → role_of parts w ≡ ClockEnable
  clock_enable_is n lt has out enables named =
      role_there n lt has named
      ∙ (λ i. role_or (cond (has i && out i) (Some (RamOutput (pin_at t n))) (cond (has i && enables i) (Some ClockEnable) None)) Plain)

  -- all others are nothing by themselves
  pub taken_plain : (n : ℕ) → n < 76 → has_ram_wire kind n ≡ true → is_read_out n ≡ false → is_clock_enable n ≡ false → wire_named parts t (ram_name n) ≡ Some w → role_of parts w ≡ Plain
  taken_plain n lt has out enables named =
      role_there n lt has named
      ∙ (λ i. role_or (cond (has i && out i) (Some (RamOutput (pin_at t n))) (cond (has i && enables i) (Some ClockEnable) None)) Plain)

-- ---- names of what is read out
-- a name that begins so is one of what is read out, among those of block RAMs
abbrev reads_out : ℕ → Bool
reads_out n = not (is_memory_output (ram_name n)) || is_read_out n

all_read_out : each_number reads_out 76 ≡ true
unfolding ram_names
all_read_out = refl

read_out : (n : ℕ) → n < 76 → is_memory_output (ram_name n) ≡ true → is_read_out n ≡ true
read_out n lt begins = by (number_passes reads_out n 76 lt all_read_out)
  where
    by : (not (is_memory_output (ram_name n)) || is_read_out n) ≡ true → is_read_out n ≡ true
    by e = sym (ap (λ b. not b || is_read_out n) begins) ∙ e

begins_told : (name : List ℕ) → is_memory_output name ≡ true → (rest : List ℕ) × (name ≡ 114 ∷ rest)
begins_told [] e = absurd (true≢false (sym e))
begins_told (a ∷ name) e =
    let both = and_parts (nat_eq 114 a) (pointwise nat_eq (codes "am/RDATA_") (take 9 name)) e in
    (name, ap (λ c. c ∷ name) (sym (nat_same 114 a both.0)))

-- such a name is read among those of block RAMs alone
read_as_ram : (name : List ℕ) → is_memory_output name ≡ true → tile_wire name ≡ option_map wire.Ram (ram_number name)
read_as_ram name e = let told = begins_told name e in ap tile_wire told.1 ∙ of_name told.0 ∙ ap (λ (k : List ℕ). option_map wire.Ram (ram_number k)) (sym told.1)
  where
    of_name : (rest : List ℕ) → tile_wire (114 ∷ rest) ≡ option_map wire.Ram (ram_number (114 ∷ rest))
    of_name rest = refl

kind_of_pin : (kind : TileKind) (n : ℕ) → (is_input_of kind (wire.Ram n) || is_output_of kind (wire.Ram n)) ≡ true → has_ram_wire kind n ≡ true
kind_of_pin Io n e = absurd (true≢false (sym e))
kind_of_pin Logic n e = absurd (true≢false (sym e))
kind_of_pin RamBottom n e = by (has_ram_wire RamBottom n) refl e
  where
    by : (b : Bool) → has_ram_wire RamBottom n ≡ b → ((b && not (is_read_out n)) || (b && is_read_out n)) ≡ true → has_ram_wire RamBottom n ≡ true
    by true is f = is
    by false is f = absurd (true≢false (sym f))
kind_of_pin RamTop n e = by (has_ram_wire RamTop n) refl e
  where
    by : (b : Bool) → has_ram_wire RamTop n ≡ b → ((b && not (is_read_out n)) || (b && is_read_out n)) ≡ true → has_ram_wire RamTop n ≡ true
    by true is f = is
    by false is f = absurd (true≢false (sym f))

-- the wire of a block RAM that such a name is of, where it is a pin's
pub record IsReadOut (kind : TileKind) (name : List ℕ) : Type 0 where
  pub wire : ℕ
  pub number : ram_number name ≡ Some wire
  pub named : name ≡ ram_name wire
  pub has : has_ram_wire kind wire ≡ true
  pub out : is_read_out wire ≡ true

pub read_out_named : (kind : TileKind) (name : List ℕ) → is_memory_output name ≡ true → (is_input_name kind name || is_output_name kind name) ≡ true → IsReadOut kind name
read_out_named kind name begins pin = by (ram_number name) refl
  where
    reads : Option TileWire → Bool
    reads o = option_map_or (is_input_of kind) o false || option_map_or (is_output_of kind) o false

    by : (o : Option ℕ) → ram_number name ≡ o → IsReadOut kind name
    by None e = absurd (true≢false (sym pin ∙ ap reads (read_as_ram name begins ∙ ap (option_map wire.Ram) e)))
    by (Some n) e =
        let told = ram_number_told name n e in
        let pinned : (is_input_of kind (wire.Ram n) || is_output_of kind (wire.Ram n)) ≡ true = sym (ap reads (read_as_ram name begins ∙ ap (option_map wire.Ram) e)) ∙ pin in
        record {
          wire = n;
          number = e;
          named = told.1;
          has = kind_of_pin kind n pinned;
          out = read_out n told.0 (ap is_memory_output (sym told.1) ∙ begins);
        }
