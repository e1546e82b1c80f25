-- What a wire is, by the name of a pin.
use Rattle.std.proofs.Common.{◌≡◌, ◌⊎◌, ℕ, zero, suc, ◌+◌, ◌-◌, ◌<◌, ◌≤◌, Bool, true, false, Option, None, Some, List, [], ◌∷◌, cond, inl, inr, refl, sym, ap, ◌∙◌, subst, arith, leb-true}
use Rattle.std.specs.Prelude.{◌==◌, ◌&&◌, ◌||◌, ◌++◌, not, nat_le, bytes_eq, codes}
use Rattle.std.specs.Option.{option_map_or, option_and_then, option_or}
use Rattle.std.proofs.lemmas.Bool.{and_parts, and_from, or_left, or_right}
use Rattle.std.proofs.lemmas.Option.{same_Some}
use Rattle.ice_base.specs.declared.number.TileAt.{TileAt}
use Rattle.ice_base.proofs.Keys.{nat_same, bytes_same}
use Rattle.ice_base_values.specs.Order.{Has}
use Rattle.ice_base_values.proofs.Together.{Has_head, Has_tail}
use Rattle.ice_chip.specs.Database.{Parts}
use Rattle.ice_chip.specs.Names.{digit, is_global_name, cell_pin, in_out_enable_name}
use Rattle.ice_chip.specs.PinNames.{is_output_of, is_input_name, is_output_name, is_input_of}
use Rattle.ice_chip.specs.RamNames.{has_ram_wire, ram_number, is_read_out, is_clock_enable, pin_at}
use Rattle.ice_chip.specs.Lookups.{kind_at, names_of, wire_named, placed_at}
use Rattle.ice_chip.specs.WireNames.{cell_wire, tile_wire, global_name}
use Rattle.ice_chip.specs.declared.rows.TileKind.{TileKind}
use Rattle.ice_chip.specs.declared.rows.TileKind.TheVariants.{Io, Logic, RamBottom, RamTop}
use Rattle.ice_chip.specs.declared.placed.PlacedName.{PlacedName}
use Rattle.ice_chip_names.specs.declared.wire_names.TileWire.{TileWire}
use Rattle.ice_chip_names.specs.declared.wire_names.TileWire.TheVariants as wire
use Rattle.ice_chip_names.proofs.Prefixes.{digit_is, set_number}
use Rattle.ice_chip_names.proofs.WireNamesRead.{of_cell, ram_wire_named}
use Rattle.ice_chip_names.proofs.RamNamesRead.{no_ram_name}
use Rattle.ice_chip_laws.specs.Names.{HasNames, HasName}
use Rattle.ice_chip_laws.specs.Pins.{HasPins, AreOnePin, is_pin_in, is_pin_name}
use Rattle.ice_decode.specs.declared.role.Role.{Role}
use Rattle.ice_decode.specs.declared.role.Role.TheVariants.{Plain, Output, LookUp, CarryOut, PadInput, RamOutput, Global, CarryIn, ClockEnable}
use Rattle.ice_decode.proofs.GlobalsNamed.{global_pin}
use Rattle.ice_decode.specs.Drivers.{number_at, global_role, output_role, or_global, role_in, role_or, first_role, role_of, ram_wire_role, ram_role}

-- ---- the first role of names
-- names of which each has this role or none
none_has : (parts : Parts) (names : List PlacedName) → ((n : PlacedName) → Has names n → role_in n.tile (kind_at parts n.tile) n.name ≡ None) → first_role parts names ≡ Plain
none_has parts [] none = refl
none_has parts (n ∷ names) none = rw (none n (Has_head n names), none_has parts names (λ m has. none m (Has_tail n m names has))) refl

one_has : (parts : Parts) (names : List PlacedName) (role : Role) → ((n : PlacedName) → Has names n → (role_in n.tile (kind_at parts n.tile) n.name ≡ None) ⊎ (role_in n.tile (kind_at parts n.tile) n.name ≡ Some role))
    → (m : PlacedName) → Has names m → role_in m.tile (kind_at parts m.tile) m.name ≡ Some role → first_role parts names ≡ role
one_has parts [] role each m has e = cc has.1
one_has parts (n ∷ names) role each m has e = by (each n (Has_head n names)) (rest has) (λ there. one_has parts names role (λ k h. each k (Has_tail n k names h)) m there e)
  where
    rest : Has (n ∷ names) m → (n ≡ m) ⊎ Has names m
    rest (zero, at) = inl (same_Some n m at)
    rest (suc i, at) = inr (i, at)

    by : (role_in n.tile (kind_at parts n.tile) n.name ≡ None) ⊎ (role_in n.tile (kind_at parts n.tile) n.name ≡ Some role) → (n ≡ m) ⊎ Has names m → (Has names m → first_role parts names ≡ role) → first_role parts (n ∷ names) ≡ role
    by (inr here) there later = rw here refl
    by (inl none) (inl same) later = let f : role_in n.tile (kind_at parts n.tile) n.name ≡ Some role = subst (λ (x : PlacedName). role_in x.tile (kind_at parts x.tile) x.name ≡ Some role) (sym same) e in cc (none, f)
    by (inl none) (inr there) later = rw none (later there)

-- ---- a name with a role is a pin's
wire_pin : (kind : TileKind) (name : List ℕ) (w : TileWire) → tile_wire name ≡ Some w → is_output_of kind w ≡ true → is_pin_in (Some kind) name ≡ true
wire_pin kind name w e out =
    or_right (is_input_name kind name) (is_output_name kind name) (ap (λ (o : Option TileWire). option_map_or (is_output_of kind) o false) e ∙ out)

global_some : (name : List ℕ) (r : Role) → global_role name ≡ Some r → is_global_name name ≡ true
global_some name r e = by (is_global_name name) refl e
  where
    by : (b : Bool) → is_global_name name ≡ b → cond b (Some (Global (number_at name 10))) None ≡ Some r → is_global_name name ≡ true
    by true is f = is
    by false is f = cc f

-- a name that is this one is a pin's where this one is
same_pin : (kind : TileKind) (name known : List ℕ) → is_pin_in (Some kind) known ≡ true → bytes_eq name known ≡ true → is_pin_in (Some kind) name ≡ true
same_pin kind name known pin e = subst (λ (k : List ℕ). is_pin_in (Some kind) k ≡ true) (sym (bytes_same name known e)) pin

-- a name with something behind a cell's digit and the stroke
cell_told : (name : List ℕ) (p : ℕ) (pin : List ℕ) → cell_pin name ≡ p ∷ pin → (n : ℕ) × (n < 8) × (name ≡ codes "lutff_" ++ digit n ∷ (47 ∷ p ∷ pin))
cell_told [] p pin is = cc is
cell_told (a ∷ []) p pin is = cc is
cell_told (a ∷ b ∷ []) p pin is = cc is
cell_told (a ∷ b ∷ c ∷ []) p pin is = cc is
cell_told (a ∷ b ∷ c ∷ d ∷ []) p pin is = cc is
cell_told (a ∷ b ∷ c ∷ d ∷ e ∷ []) p pin is = cc is
cell_told (a ∷ b ∷ c ∷ d ∷ e ∷ f ∷ []) p pin is = cc is
cell_told (a ∷ b ∷ c ∷ d ∷ e ∷ f ∷ i ∷ []) p pin is = cc is
cell_told (a ∷ b ∷ c ∷ d ∷ e ∷ f ∷ i ∷ g ∷ rest) p pin is =
    by ((a == 108) && (b == 117) && (c == 116) && (d == 102) && (e == 102) && (f == 95) && nat_le 48 i && nat_le i 55 && (g == 47)) refl is
  where
    by : (test : Bool) → ((a == 108) && (b == 117) && (c == 116) && (d == 102) && (e == 102) && (f == 95) && nat_le 48 i && nat_le i 55 && (g == 47)) ≡ test
        → cond test rest [] ≡ p ∷ pin → (n : ℕ) × (n < 8) × (a ∷ b ∷ c ∷ d ∷ e ∷ f ∷ i ∷ g ∷ rest ≡ codes "lutff_" ++ digit n ∷ (47 ∷ p ∷ pin))
    by false at told = cc told
    by true at told =
        let eight = and_parts ((a == 108) && (b == 117) && (c == 116) && (d == 102) && (e == 102) && (f == 95) && nat_le 48 i && nat_le i 55) (g == 47) at in
        let seven = and_parts ((a == 108) && (b == 117) && (c == 116) && (d == 102) && (e == 102) && (f == 95) && nat_le 48 i) (nat_le i 55) eight.0 in
        let six = and_parts ((a == 108) && (b == 117) && (c == 116) && (d == 102) && (e == 102) && (f == 95)) (nat_le 48 i) seven.0 in
        let five = and_parts ((a == 108) && (b == 117) && (c == 116) && (d == 102) && (e == 102)) (f == 95) six.0 in
        let four = and_parts ((a == 108) && (b == 117) && (c == 116) && (d == 102)) (e == 102) five.0 in
        let three = and_parts ((a == 108) && (b == 117) && (c == 116)) (d == 102) four.0 in
        let two = and_parts ((a == 108) && (b == 117)) (c == 116) three.0 in
        let one = and_parts (a == 108) (b == 117) two.0 in
        let low : 48 ≤ i = leb-true 48 i six.1 in
        let high : i ≤ 55 = leb-true i 55 seven.1 in
        let number : digit (i - 48) ≡ 48 + (i - 48) = digit_is (i - 48) (omega arith) in
        let ei : i ≡ digit (i - 48) = omega arith in
        let ea = nat_same a 108 one.0 in
        let eb = nat_same b 117 one.1 in
        let ec = nat_same c 116 two.1 in
        let ed = nat_same d 102 three.1 in
        let ee = nat_same e 102 four.1 in
        let ef = nat_same f 95 five.1 in
        let eg = nat_same g 47 eight.1 in (
          i - 48,
          omega arith,
          λ j. ea j ∷ eb j ∷ ec j ∷ ed j ∷ ee j ∷ ef j ∷ ei j ∷ eg j ∷ told j,
        )

-- a name of an output of a cell is a pin's
cell_out : (name : List ℕ) (p : ℕ) (pin : List ℕ) → ((cell : ℕ) → (w : TileWire) × (cell_wire cell (47 ∷ p ∷ pin) ≡ Some w) × (is_output_of Logic w ≡ true))
    → cell_pin name ≡ p ∷ pin → is_pin_in (Some Logic) name ≡ true
cell_out name p pin wires is =
    let cell = cell_told name p pin is in
    let out = wires cell.0 in
    wire_pin Logic name out.0 (ap tile_wire cell.2 ∙ of_cell cell.0 (47 ∷ p ∷ pin) cell.1 ∙ out.1) out.2

-- a wire of a block RAM that has a role is a pin's
wire_in_pin : (kind : TileKind) (name : List ℕ) (w : TileWire) → tile_wire name ≡ Some w → is_input_of kind w ≡ true → is_pin_in (Some kind) name ≡ true
wire_in_pin kind name w e reads =
    or_left (is_input_name kind name) (is_output_name kind name) (ap (λ (o : Option TileWire). option_map_or (is_input_of kind) o false) e ∙ reads)

-- an enable of a clock is nothing that is read out
enable_reads : (n : ℕ) → is_clock_enable n ≡ true → not (is_read_out n) ≡ true
enable_reads n e = by (n == 74) refl e
  where
    by : (b : Bool) → (n == 74) ≡ b → (b || (n == 75)) ≡ true → not (is_read_out n) ≡ true
    by true is f = ap (λ k. not (is_read_out k)) (nat_same n 74 is)
    by false is f = ap (λ k. not (is_read_out k)) (nat_same n 75 f)

ram_pin_role : (t : TileAt) (kind : TileKind) (name : List ℕ) (n : ℕ) (r : Role) → ram_number name ≡ Some n → ram_wire_role t kind n ≡ Some r → is_pin_in (Some kind) name ≡ true
ram_pin_role t kind name n r named e = by (has_ram_wire kind n && is_read_out n) (has_ram_wire kind n && is_clock_enable n) refl refl e
  where
    drives_so : (k : TileKind) → (has_ram_wire k n && is_read_out n) ≡ true → is_output_of k (wire.Ram n) ≡ true
    drives_so Io f = f
    drives_so Logic f = f
    drives_so RamBottom f = f
    drives_so RamTop f = f

    reads_so : (k : TileKind) → (has_ram_wire k n && not (is_read_out n)) ≡ true → is_input_of k (wire.Ram n) ≡ true
    reads_so Io f = f
    reads_so Logic f = f
    reads_so RamBottom f = f
    reads_so RamTop f = f

    by : (a b : Bool) → (has_ram_wire kind n && is_read_out n) ≡ a → (has_ram_wire kind n && is_clock_enable n) ≡ b
        → cond a (Some (RamOutput (pin_at t n))) (cond b (Some ClockEnable) None) ≡ Some r → is_pin_in (Some kind) name ≡ true
    by true b ea eb f = wire_pin kind name (wire.Ram n) (ram_wire_named name n named) (drives_so kind ea)
    by false true ea eb f =
        let both = and_parts (has_ram_wire kind n) (is_clock_enable n) eb in
        wire_in_pin kind name (wire.Ram n) (ram_wire_named name n named) (reads_so kind (and_from (has_ram_wire kind n) (not (is_read_out n)) both.0 (enable_reads n both.1)))
    by false false ea eb f = cc f

ram_role_pin : (t : TileAt) (kind : TileKind) (name : List ℕ) (r : Role) → ram_role t kind name ≡ Some r → is_pin_in (Some kind) name ≡ true
ram_role_pin t kind name r e = by (ram_number name) refl e
  where
    of : (n : ℕ) (o : Option Role) → ram_number name ≡ Some n → ram_wire_role t kind n ≡ o → option_or o (global_role name) ≡ Some r → is_pin_in (Some kind) name ≡ true
    of n None named is f = global_pin kind name (global_some name r f)
    of n (Some s) named is f = ram_pin_role t kind name n s named is

    by : (o : Option ℕ) → ram_number name ≡ o → option_or (option_and_then (ram_wire_role t kind) o) (global_role name) ≡ Some r → is_pin_in (Some kind) name ≡ true
    by None named f = global_pin kind name (global_some name r f)
    by (Some n) named f = of n (ram_wire_role t kind n) named refl f

role_pin : (t : TileAt) (kind : TileKind) (name : List ℕ) (r : Role) → role_in t (Some kind) name ≡ Some r → is_pin_in (Some kind) name ≡ true
role_pin t RamBottom name r e = ram_role_pin t RamBottom name r e
role_pin t RamTop name r e = ram_role_pin t RamTop name r e
role_pin t Io name r e = by (bytes_eq name (codes "io_0/D_IN_0")) (bytes_eq name (codes "io_1/D_IN_0")) (bytes_eq name in_out_enable_name) refl refl refl e
  where
    by : (a b c : Bool) → bytes_eq name (codes "io_0/D_IN_0") ≡ a → bytes_eq name (codes "io_1/D_IN_0") ≡ b → bytes_eq name in_out_enable_name ≡ c
        → cond a (Some (PadInput (record { tile = t; pio = 0 }))) (cond b (Some (PadInput (record { tile = t; pio = 1 }))) (cond c (Some ClockEnable) (global_role name))) ≡ Some r → is_pin_in (Some Io) name ≡ true
    by true b c ea eb ec f = same_pin Io name (codes "io_0/D_IN_0") refl ea
    by false true c ea eb ec f = same_pin Io name (codes "io_1/D_IN_0") refl eb
    by false false true ea eb ec f = same_pin Io name in_out_enable_name refl ec
    by false false false ea eb ec f = global_pin Io name (global_some name r f)
role_pin t Logic name r e = by (bytes_eq name (codes "carry_in_mux")) (bytes_eq name (codes "lutff_global/cen")) refl refl e
  where
    out_pin : (i : ℕ) (s : Role) → output_role t i (cell_pin name) ≡ Some s → is_pin_in (Some Logic) name ≡ true
    out_pin i s f = cases (bytes_eq (cell_pin name) (codes "out")) (bytes_eq (cell_pin name) (codes "lout")) (bytes_eq (cell_pin name) (codes "cout")) refl refl refl f
      where
        cases : (a b c : Bool) → bytes_eq (cell_pin name) (codes "out") ≡ a → bytes_eq (cell_pin name) (codes "lout") ≡ b → bytes_eq (cell_pin name) (codes "cout") ≡ c
            → cond a (Some (Output t i)) (cond b (Some (LookUp t i)) (cond c (Some (CarryOut t i)) None)) ≡ Some s → is_pin_in (Some Logic) name ≡ true
        cases true b c ea eb ec g = cell_out name 111 (codes "ut") (λ cell. (wire.CellOutput cell, refl, refl)) (bytes_same (cell_pin name) (codes "out") ea)
        cases false true c ea eb ec g = cell_out name 108 (codes "out") (λ cell. (wire.LookUp cell, refl, refl)) (bytes_same (cell_pin name) (codes "lout") eb)
        cases false false true ea eb ec g = cell_out name 99 (codes "out") (λ cell. (wire.CarryOut cell, refl, refl)) (bytes_same (cell_pin name) (codes "cout") ec)
        cases false false false ea eb ec g = cc g

    or_out : (o : Option Role) → output_role t (number_at name 6) (cell_pin name) ≡ o → or_global o name ≡ Some r → is_pin_in (Some Logic) name ≡ true
    or_out None f g = global_pin Logic name (global_some name r g)
    or_out (Some s) f g = out_pin (number_at name 6) s f

    by : (a b : Bool) → bytes_eq name (codes "carry_in_mux") ≡ a → bytes_eq name (codes "lutff_global/cen") ≡ b
        → cond a (Some (CarryIn t)) (cond b (Some ClockEnable) (or_global (output_role t (number_at name 6) (cell_pin name)) name)) ≡ Some r → is_pin_in (Some Logic) name ≡ true
    by true b ea eb f = same_pin Logic name (codes "carry_in_mux") refl ea
    by false true ea eb f = same_pin Logic name (codes "lutff_global/cen") refl eb
    by false false ea eb f = or_out (output_role t (number_at name 6) (cell_pin name)) refl f

-- ---- two names of one pin have one role
abbrev IsGlobalRole : List ℕ → Type 0
IsGlobalRole name = (t : TileAt) (kind : TileKind) → role_in t (Some kind) name ≡ Some (Global (number_at name 10))

every_kind : (name : List ℕ) → ((t : TileAt) → role_in t (Some Io) name ≡ Some (Global (number_at name 10))) → ((t : TileAt) → role_in t (Some Logic) name ≡ Some (Global (number_at name 10)))
    → global_role name ≡ Some (Global (number_at name 10)) → ram_number name ≡ None → IsGlobalRole name
every_kind name io logic other none t Io = io t
every_kind name io logic other none t Logic = logic t
every_kind name io logic other none t RamBottom = ap (λ o. option_or (option_and_then (ram_wire_role t RamBottom) o) (global_role name)) none ∙ other
every_kind name io logic other none t RamTop = ap (λ o. option_or (option_and_then (ram_wire_role t RamTop) o) (global_role name)) none ∙ other

global_number : (n : ℕ) → n < 8 → IsGlobalRole (global_name n)
global_number zero lt = every_kind (global_name 0) (λ t. refl) (λ t. refl) refl (no_ram_name 103 (codes "lb_netwk_0") refl)
global_number (suc zero) lt = every_kind (global_name 1) (λ t. refl) (λ t. refl) refl (no_ram_name 103 (codes "lb_netwk_1") refl)
global_number (suc (suc zero)) lt = every_kind (global_name 2) (λ t. refl) (λ t. refl) refl (no_ram_name 103 (codes "lb_netwk_2") refl)
global_number (suc (suc (suc zero))) lt = every_kind (global_name 3) (λ t. refl) (λ t. refl) refl (no_ram_name 103 (codes "lb_netwk_3") refl)
global_number (suc (suc (suc (suc zero)))) lt = every_kind (global_name 4) (λ t. refl) (λ t. refl) refl (no_ram_name 103 (codes "lb_netwk_4") refl)
global_number (suc (suc (suc (suc (suc zero))))) lt = every_kind (global_name 5) (λ t. refl) (λ t. refl) refl (no_ram_name 103 (codes "lb_netwk_5") refl)
global_number (suc (suc (suc (suc (suc (suc zero)))))) lt = every_kind (global_name 6) (λ t. refl) (λ t. refl) refl (no_ram_name 103 (codes "lb_netwk_6") refl)
global_number (suc (suc (suc (suc (suc (suc (suc zero))))))) lt = every_kind (global_name 7) (λ t. refl) (λ t. refl) refl (no_ram_name 103 (codes "lb_netwk_7") refl)
global_number (suc (suc (suc (suc (suc (suc (suc (suc n)))))))) lt = absurd (omega arith)

pub global_any : (name : List ℕ) → is_global_name name ≡ true → IsGlobalRole name
global_any name e =
    let which = set_number 8 (codes "glb_netwk_") name (omega arith) e in subst (λ (k : List ℕ). IsGlobalRole k) (sym which.2) (global_number which.0 which.1)

module _ (parts : Parts) (names : HasNames parts) (pins : HasPins parts) where
  -- the role that a name gives in its tile
  abbrev pub role_at : PlacedName → Option Role
  role_at n = role_in n.tile (kind_at parts n.tile) n.name

  kind_known : (n : PlacedName) → is_pin_name parts n ≡ true → (kind : TileKind) × (kind_at parts n.tile ≡ Some kind)
  kind_known n e = by (kind_at parts n.tile) refl e
    where
      by : (o : Option TileKind) → kind_at parts n.tile ≡ o → is_pin_in o n.name ≡ true → (kind : TileKind) × (kind_at parts n.tile ≡ Some kind)
      by None is f = cc f
      by (Some kind) is f = (kind, is)

  same_role : (a b : PlacedName) → is_pin_name parts a ≡ true → is_pin_name parts b ≡ true → AreOnePin a b → role_at a ≡ role_at b
  same_role a b pa pb one = by one.1
    where
      by : (a.tile ≡ b.tile) ⊎ (is_global_name a.name ≡ true) → role_at a ≡ role_at b
      by (inl tile) = ap (λ (x : List ℕ). role_in a.tile (kind_at parts a.tile) x) one.0 ∙ ap (λ (t : TileAt). role_in t (kind_at parts t) b.name) tile
      by (inr global) =
          let ka = kind_known a pa in
          let kb = kind_known b pb in
          let gb : is_global_name b.name ≡ true = subst (λ (x : List ℕ). is_global_name x ≡ true) one.0 global in
          ap (λ k. role_in a.tile k a.name) ka.1 ∙ global_any a.name global a.tile ka.0
          ∙ ap (λ (x : List ℕ). Some (Global (number_at x 10))) one.0
          ∙ sym (ap (λ k. role_in b.tile k b.name) kb.1 ∙ global_any b.name gb b.tile kb.0)

  -- a name with a role is a pin's
  role_named : (n : PlacedName) (r : Role) → role_at n ≡ Some r → is_pin_name parts n ≡ true
  role_named n r e = by (kind_at parts n.tile) refl e
    where
      by : (o : Option TileKind) → kind_at parts n.tile ≡ o → role_in n.tile o n.name ≡ Some r → is_pin_in (kind_at parts n.tile) n.name ≡ true
      by None is f = cc f
      by (Some kind) is f = ap (λ o. is_pin_in o n.name) is ∙ role_pin n.tile kind n.name r f

  -- a wire has the role of each pin name that it has; Plain, where that has none
  pub pin_role : (t : TileAt) (name : List ℕ) (w : ℕ) → wire_named parts t name ≡ Some w → is_pin_name parts (placed_at t name) ≡ true → role_of parts w ≡ role_or (role_at (placed_at t name)) Plain
  pin_role t name w at pin = by (role_at (placed_at t name)) refl
    where
      has : HasName parts w (placed_at t name)
      has = names.found t name w at

      each : (n : PlacedName) → Has (names_of parts w) n → (role_at n ≡ None) ⊎ (role_at n ≡ role_at (placed_at t name))
      each n h = one (role_at n) refl
        where
          one : (o : Option Role) → role_at n ≡ o → (role_at n ≡ None) ⊎ (role_at n ≡ role_at (placed_at t name))
          one None e = inl e
          one (Some r) e =
              let pn = role_named n r e in
              inr (same_role n (placed_at t name) pn pin (pins.one_pin w n (placed_at t name) (h, pn) (has, pin)))

      by : (o : Option Role) → role_at (placed_at t name) ≡ o → role_of parts w ≡ role_or (role_at (placed_at t name)) Plain
      by None e =
          none_has parts (names_of parts w) (λ n h. elim (each n h) [ inl f ↦ f | inr f ↦ f ∙ e ])
          ∙ ap (λ o. role_or o Plain) (sym e)
      by (Some r) e =
          one_has parts (names_of parts w) r (λ n h. elim (each n h) [ inl f ↦ inl f | inr f ↦ inr (f ∙ e) ]) (placed_at t name) has e
          ∙ ap (λ o. role_or o Plain) (sym e)
