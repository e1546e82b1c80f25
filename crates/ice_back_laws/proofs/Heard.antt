-- Wires of pads that something reads.
use Rattle.std.proofs.Common.{◌≡◌, ℕ, suc, ◌+◌, ◌<◌, ◌&&◌, Bool, true, false, cond, Option, None, Some, List, [], ◌∷◌, map, arith, refl, sym, ap, ◌∙◌, subst, eq-eqb}
use Rattle.std.specs.Prelude.{bytes_eq, codes, option_map}
use Rattle.std.specs.Option.{option_and_then, option_or}
use Rattle.std.specs.List.{list_any, range_with_len}
use Rattle.std.proofs.lemmas.Bool.{or_left, or_right}
use Rattle.std.proofs.lemmas.Option.{same_Some, none-some}
use Rattle.ice_base.specs.declared.number.TileAt.{TileAt}
use Rattle.ice_base.proofs.Keys.{bytes_same}
use Rattle.ice_base_values.specs.Order.{At, Has}
use Rattle.ice_base_values.proofs.Members.{Has_any, At_map}
use Rattle.ice_chip.specs.Database.{Parts}
use Rattle.ice_chip.specs.Lookups.{kind_at, names_of, wire_named, placed_at}
use Rattle.ice_chip.specs.Names.{cell_pin, is_global_name, pad_input_name, in_out_enable_name}
use Rattle.ice_chip.specs.RamNames.{has_ram_wire, ram_number, is_read_out, is_clock_enable, pin_at}
use Rattle.ice_chip.specs.declared.rows.Pad.{Pad}
use Rattle.ice_chip.specs.declared.rows.TileKind.{TileKind}
use Rattle.ice_chip.specs.declared.rows.TileKind.TheVariants.{Io, Logic, RamBottom, RamTop}
use Rattle.ice_chip.specs.declared.placed.PlacedName.{PlacedName}
use Rattle.ice_chip_laws.specs.Names.{HasNames}
use Rattle.ice_bits.specs.Configuration.{Bits}
use Rattle.ice_decode.specs.declared.driver.Driver.{Driver}
use Rattle.ice_decode.specs.declared.driver.Switch.{Switch}
use Rattle.ice_decode.specs.declared.driver.Driver.TheVariants.{By}
use Rattle.ice_decode.specs.declared.point.Point.{Point}
use Rattle.ice_decode.specs.declared.point.Point.TheVariants.{Wire, Carry}
use Rattle.ice_decode.specs.declared.role.Role.{Role}
use Rattle.ice_decode.specs.declared.role.Role.TheVariants.{Plain, Output, LookUp, CarryOut, PadInput, RamOutput, Global, CarryIn, ClockEnable}
use Rattle.ice_decode.specs.Drivers.{driver, number_at, global_role, output_role, or_global, logic_role, io_role, role_in, role_or, first_role, role_of, ram_wire_role, ram_role}
use Rattle.ice_decode.specs.Reads.{wire_point, at_pin}
use Rattle.ice_decode.proofs.Members.{At_range}
use Rattle.ice_back_laws.specs.Roots.{leads_from, is_reading_name, is_heard_at, is_heard}

-- ---- the wire of a pad has the pad's name
abbrev IsPadName : Pad → TileAt → List ℕ → Type 0
IsPadName pad t name = (pad.tile ≡ t) × (name ≡ pad_input_name pad.pio)

-- what a role says of the name that gives it
abbrev Names : TileAt → List ℕ → Role → Type 0
Names t name Plain = Unit {0}
Names t name (Output u i) = Unit {0}
Names t name (LookUp u i) = Unit {0}
Names t name (CarryOut u i) = Unit {0}
Names t name (PadInput pad) = IsPadName pad t name
Names t name (RamOutput pad) = Unit {0}
Names t name (Global n) = Unit {0}
Names t name (CarryIn u) = Unit {0}
Names t name ClockEnable = Unit {0}

abbrev NamesIf : TileAt → List ℕ → Option Role → Type 0
NamesIf t name None = Unit {0}
NamesIf t name (Some role) = Names t name role

global_names : (t : TileAt) (name : List ℕ) → NamesIf t name (global_role name)
global_names t name = of (is_global_name name)
  where
    of : (b : Bool) → NamesIf t name (cond b (Some (Global (number_at name 10))) None)
    of true = tt
    of false = tt

logic_names : (t : TileAt) (name : List ℕ) → NamesIf t name (logic_role t name)
logic_names t name = of (bytes_eq name (codes "carry_in_mux")) (bytes_eq name (codes "lutff_global/cen"))
  where
    out : (role : Option Role) → NamesIf t name role → NamesIf t name (or_global role name)
    out None given = global_names t name
    out (Some role) given = given

    which : (a b c : Bool) (i : ℕ) → NamesIf t name (cond a (Some (Output t i)) (cond b (Some (LookUp t i)) (cond c (Some (CarryOut t i)) None)))
    which true b c i = tt
    which false true c i = tt
    which false false true i = tt
    which false false false i = tt

    of : (a b : Bool) → NamesIf t name (cond a (Some (CarryIn t)) (cond b (Some ClockEnable) (or_global (output_role t (number_at name 6) (cell_pin name)) name)))
    of true b = tt
    of false true = tt
    of false false =
        out (output_role t (number_at name 6) (cell_pin name))
        (which (bytes_eq (cell_pin name) (codes "out")) (bytes_eq (cell_pin name) (codes "lout")) (bytes_eq (cell_pin name) (codes "cout")) (number_at name 6))

io_names : (t : TileAt) (name : List ℕ) → NamesIf t name (io_role t name)
io_names t name = of (bytes_eq name (codes "io_0/D_IN_0")) (bytes_eq name (codes "io_1/D_IN_0")) (bytes_eq name in_out_enable_name) refl refl
  where
    of : (a b c : Bool) → bytes_eq name (codes "io_0/D_IN_0") ≡ a → bytes_eq name (codes "io_1/D_IN_0") ≡ b
        → NamesIf t name (cond a (Some (PadInput (record { tile = t; pio = 0 }))) (cond b (Some (PadInput (record { tile = t; pio = 1 }))) (cond c (Some ClockEnable) (global_role name))))
    of true b c e f = (refl, bytes_same name (codes "io_0/D_IN_0") e)
    of false true c e f = (refl, bytes_same name (codes "io_1/D_IN_0") f)
    of false false true e f = tt
    of false false false e f = global_names t name

ram_names : (t : TileAt) (kind : TileKind) (name : List ℕ) → NamesIf t name (ram_role t kind name)
ram_names t kind name = either (option_and_then (ram_wire_role t kind) (ram_number name)) (wire (ram_number name))
  where
    either : (role : Option Role) → NamesIf t name role → NamesIf t name (option_or role (global_role name))
    either None given = global_names t name
    either (Some role) given = given

    of : (a b : Bool) (n : ℕ) → NamesIf t name (cond a (Some (RamOutput (pin_at t n))) (cond b (Some ClockEnable) None))
    of true b n = tt
    of false true n = tt
    of false false n = tt

    wire : (o : Option ℕ) → NamesIf t name (option_and_then (ram_wire_role t kind) o)
    wire None = tt
    wire (Some n) = of (has_ram_wire kind n && is_read_out n) (has_ram_wire kind n && is_clock_enable n) n

in_names : (t : TileAt) (kind : Option TileKind) (name : List ℕ) → NamesIf t name (role_in t kind name)
in_names t None name = tt
in_names t (Some Io) name = io_names t name
in_names t (Some Logic) name = logic_names t name
in_names t (Some RamBottom) name = ram_names t RamBottom name
in_names t (Some RamTop) name = ram_names t RamTop name

-- the name among these that gives a pad's role
pad_named : (parts : Parts) (names : List PlacedName) (pad : Pad) → first_role parts names ≡ PadInput pad → Has names (placed_at pad.tile (pad_input_name pad.pio))
pad_named parts [] pad e = cc e
pad_named parts (n ∷ names) pad e = of (role_in n.tile (kind_at parts n.tile) n.name) (in_names n.tile (kind_at parts n.tile) n.name) (pad_named parts names pad) e
  where
    here : (role : Role) → Names n.tile n.name role → role ≡ PadInput pad → Has (n ∷ names) (placed_at pad.tile (pad_input_name pad.pio))
    here role given f =
        let is : IsPadName pad n.tile n.name = subst (Names n.tile n.name) f given in
        (0, (λ i. Some (record { tile = sym is.0 i; name = is.1 i })))

    of : (o : Option Role) → NamesIf n.tile n.name o → (first_role parts names ≡ PadInput pad → Has names (placed_at pad.tile (pad_input_name pad.pio))) → role_or o (first_role parts names) ≡ PadInput pad → Has (n ∷ names) (placed_at pad.tile (pad_input_name pad.pio))
    of None given later f = let rest = later f in (suc rest.0, rest.1)
    of (Some role) given later f = here role given f

module _ (parts : Parts) (bits : Bits) (laws : HasNames parts) where
  -- the wire that has a pad's role is found by the pad's name
  pub pad_wire : (w : ℕ) (pad : Pad) → role_of parts w ≡ PadInput pad → wire_named parts pad.tile (pad_input_name pad.pio) ≡ Some w
  pad_wire w pad e = laws.named pad.tile (pad_input_name pad.pio) w (pad_named parts (names_of parts w) pad e)

  heard_by : (w : ℕ) (pad : Pad) → role_of parts w ≡ PadInput pad → is_heard_at parts bits (Some w) ≡ true → is_heard parts bits pad ≡ true
  heard_by w pad e heard = ap (is_heard_at parts bits) (pad_wire w pad e) ∙ heard

  -- a point is heard: if it is the wire of a pad, the netlist takes it that something reads it
  abbrev pub IsHeardAs : Role → Type 0
  IsHeardAs Plain = Unit {0}
  IsHeardAs (Output t i) = Unit {0}
  IsHeardAs (LookUp t i) = Unit {0}
  IsHeardAs (CarryOut t i) = Unit {0}
  IsHeardAs (PadInput pad) = is_heard parts bits pad ≡ true
  IsHeardAs (RamOutput pad) = Unit {0}
  IsHeardAs (Global n) = Unit {0}
  IsHeardAs (CarryIn t) = Unit {0}
  IsHeardAs ClockEnable = Unit {0}

  abbrev pub IsHeard : Point → Type 0
  IsHeard (Wire w) = IsHeardAs (role_of parts w.0)
  IsHeard (Carry t i) = Unit {0}

  heard_wire : (w : ℕ) → is_heard_at parts bits (Some w) ≡ true → IsHeardAs (role_of parts w)
  heard_wire w heard = of (role_of parts w) refl
    where
      of : (role : Role) → role_of parts w ≡ role → IsHeardAs role
      of Plain e = tt
      of (Output t i) e = tt
      of (LookUp t i) e = tt
      of (CarryOut t i) e = tt
      of (PadInput pad) e = heard_by w pad e heard
      of (RamOutput pad) e = tt
      of (Global n) e = tt
      of (CarryIn t) e = tt
      of ClockEnable e = tt

  abbrev all_drivers : List Driver
  all_drivers = map (driver parts bits) (range_with_len 0 parts.wires)

  -- what a row that drives a wire leads from is heard
  pub row_heard : (w : ℕ) (s : Switch) → w < parts.wires → driver parts bits w ≡ By s → IsHeard (Wire s.source)
  row_heard w s lt e =
      let z : 0 + w ≡ w = omega arith in
      let at : At (range_with_len 0 parts.wires) w w = subst (λ m. At (range_with_len 0 parts.wires) w m) z (At_range 0 parts.wires w lt) in
      let there : At all_drivers w (By s) = subst (At all_drivers w) e (At_map (driver parts bits) (range_with_len 0 parts.wires) w w at) in
      heard_wire s.source.0 (or_left (list_any (leads_from s.source.0) all_drivers) (list_any is_reading_name (names_of parts s.source.0))
      (Has_any (leads_from s.source.0) all_drivers (By s) w there (eq-eqb s.source.0 s.source.0 refl)))

  -- and so is what is found by the name of something that reads
  pub pin_heard : (t : TileAt) (name : List ℕ) → is_reading_name (placed_at t name) ≡ true → (p : Point) → at_pin parts t name ≡ Some p → IsHeard p
  pin_heard t name reads p e = of (wire_named parts t name) refl e
    where
      of : (o : Option ℕ) → wire_named parts t name ≡ o → option_map wire_point o ≡ Some p → IsHeard p
      of None f g = absurd (none-some p g)
      of (Some w) f g =
          let has = laws.found t name w f in
          let any = Has_any is_reading_name (names_of parts w) (placed_at t name) has.0 has.1 reads in
          subst IsHeard (same_Some (wire_point w) p g) (heard_wire w (or_right (list_any (leads_from w) all_drivers) (list_any is_reading_name (names_of parts w)) any))
