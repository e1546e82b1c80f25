-- What the wires of pins are, by their names: in logic tiles, in IO tiles, and globals.
use Rattle.std.proofs.Common.{◌≡◌, ℕ, zero, suc, ◌<◌, true, Option, None, Some, List, refl, ap, ◌∙◌, bytes_eq, arith}
use Rattle.std.specs.List.{list_any}
use Rattle.ice_base.specs.declared.number.TileAt.{TileAt}
use Rattle.ice_base.proofs.Keys.{bytes_same}
use Rattle.ice_base_values.proofs.Members.{any_Has}
use Rattle.ice_chip.specs.Database.{Parts}
use Rattle.ice_chip.specs.Lookups.{kind_at, names_of, wire_named}
use Rattle.ice_chip.specs.Names.{is_global_name, input_name, pad_input_name, pad_output_name, output_enable_name}
use Rattle.ice_chip.specs.WireNames.{output_name, carry_out_name, clock_name, clock_enable_name, set_reset_name, first_carry_name, fabout_name, global_name}
use Rattle.ice_chip.specs.declared.rows.TileKind.{TileKind}
use Rattle.ice_chip.specs.declared.rows.TileKind.TheVariants.{Io, Logic}
use Rattle.ice_chip.specs.declared.placed.PlacedName.{PlacedName}
use Rattle.ice_chip_laws.specs.Laws.{IsLawful}
use Rattle.ice_chip_laws.specs.Pins.{is_pin_in}
use Rattle.ice_decode.specs.declared.role.Role.{Role}
use Rattle.ice_decode.specs.declared.role.Role.TheVariants.{Plain, Output, CarryOut, PadInput, Global, CarryIn, ClockEnable}
use Rattle.ice_decode.specs.Drivers.{number_at, role_in, role_or, role_of}
use Rattle.ice_decode.proofs.GlobalsNamed.{global_pin}
use Rattle.ice_decode.proofs.PinRoles.{pin_role, global_any}
use Rattle.ice_decode.proofs.OtherTypes.{each_two}

-- ---- small numbers
pub each_eight : (P : ℕ → Type 0) → P 0 → P 1 → P 2 → P 3 → P 4 → P 5 → P 6 → P 7 → (i : ℕ) → i < 8 → P i
each_eight P a b c d e f g h zero lt = a
each_eight P a b c d e f g h (suc zero) lt = b
each_eight P a b c d e f g h (suc (suc zero)) lt = c
each_eight P a b c d e f g h (suc (suc (suc zero))) lt = d
each_eight P a b c d e f g h (suc (suc (suc (suc zero)))) lt = e
each_eight P a b c d e f g h (suc (suc (suc (suc (suc zero))))) lt = f
each_eight P a b c d e f g h (suc (suc (suc (suc (suc (suc zero)))))) lt = g
each_eight P a b c d e f g h (suc (suc (suc (suc (suc (suc (suc zero))))))) lt = h
each_eight P a b c d e f g h (suc (suc (suc (suc (suc (suc (suc (suc i)))))))) lt = absurd (omega arith)

pub each_four : (P : ℕ → Type 0) → P 0 → P 1 → P 2 → P 3 → (k : ℕ) → k < 4 → P k
each_four P a b c d zero lt = a
each_four P a b c d (suc zero) lt = b
each_four P a b c d (suc (suc zero)) lt = c
each_four P a b c d (suc (suc (suc zero))) lt = d
each_four P a b c d (suc (suc (suc (suc k)))) lt = absurd (omega arith)

-- ---- names of pins
-- the name is a pin's in tiles of the kind, where its wire is this
abbrev Names : TileKind → List ℕ → (TileAt → Option Role) → Type 0
Names kind name role = (is_pin_in (Some kind) name ≡ true) × ((t : TileAt) → role_in t (Some kind) name ≡ role t)

abbrev none : TileAt → Option Role
none t = None

input_names : (i k : ℕ) → i < 8 → k < 4 → Names Logic (input_name i k) none
input_names i k lt =
    each_eight (λ i. (k : ℕ) → k < 4 → Names Logic (input_name i k) none)
    (each_four (λ k. Names Logic (input_name 0 k) none) (refl, λ t. refl) (refl, λ t. refl) (refl, λ t. refl) (refl, λ t. refl))
    (each_four (λ k. Names Logic (input_name 1 k) none) (refl, λ t. refl) (refl, λ t. refl) (refl, λ t. refl) (refl, λ t. refl))
    (each_four (λ k. Names Logic (input_name 2 k) none) (refl, λ t. refl) (refl, λ t. refl) (refl, λ t. refl) (refl, λ t. refl))
    (each_four (λ k. Names Logic (input_name 3 k) none) (refl, λ t. refl) (refl, λ t. refl) (refl, λ t. refl) (refl, λ t. refl))
    (each_four (λ k. Names Logic (input_name 4 k) none) (refl, λ t. refl) (refl, λ t. refl) (refl, λ t. refl) (refl, λ t. refl))
    (each_four (λ k. Names Logic (input_name 5 k) none) (refl, λ t. refl) (refl, λ t. refl) (refl, λ t. refl) (refl, λ t. refl))
    (each_four (λ k. Names Logic (input_name 6 k) none) (refl, λ t. refl) (refl, λ t. refl) (refl, λ t. refl) (refl, λ t. refl))
    (each_four (λ k. Names Logic (input_name 7 k) none) (refl, λ t. refl) (refl, λ t. refl) (refl, λ t. refl) (refl, λ t. refl)) i lt k

output_names : (i : ℕ) → i < 8 → Names Logic (output_name i) (λ t. Some (Output t i))
output_names =
    each_eight (λ i. Names Logic (output_name i) (λ t. Some (Output t i)))
    (refl, λ t. refl) (refl, λ t. refl) (refl, λ t. refl) (refl, λ t. refl) (refl, λ t. refl) (refl, λ t. refl) (refl, λ t. refl) (refl, λ t. refl)

carry_names : (i : ℕ) → i < 8 → Names Logic (carry_out_name i) (λ t. Some (CarryOut t i))
carry_names =
    each_eight (λ i. Names Logic (carry_out_name i) (λ t. Some (CarryOut t i)))
    (refl, λ t. refl) (refl, λ t. refl) (refl, λ t. refl) (refl, λ t. refl) (refl, λ t. refl) (refl, λ t. refl) (refl, λ t. refl) (refl, λ t. refl)

pad_names : (pio : ℕ) → pio < 2 → Names Io (pad_input_name pio) (λ t. Some (PadInput (record { tile = t; pio = pio }))) × Names Io (pad_output_name pio) none × Names Io (output_enable_name pio) none
pad_names =
    each_two (λ pio. Names Io (pad_input_name pio) (λ t. Some (PadInput (record { tile = t; pio = pio }))) × Names Io (pad_output_name pio) none × Names Io (output_enable_name pio) none)
    ((refl, λ t. refl), (refl, λ t. refl), (refl, λ t. refl)) ((refl, λ t. refl), (refl, λ t. refl), (refl, λ t. refl))

global_names : (n : ℕ) → n < 8 → (is_global_name (global_name n) ≡ true) × (number_at (global_name n) 10 ≡ n)
global_names =
    each_eight (λ n. (is_global_name (global_name n) ≡ true) × (number_at (global_name n) 10 ≡ n))
    (refl, refl) (refl, refl) (refl, refl) (refl, refl) (refl, refl) (refl, refl) (refl, refl) (refl, refl)

-- ---- roles of wires
module _ (parts : Parts) (lawful : IsLawful parts) where
  -- the wire of a pin
  known : (t : TileAt) (kind : TileKind) (name : List ℕ) (role : TileAt → Option Role) (w : ℕ) → Names kind name role → kind_at parts t ≡ Some kind → wire_named parts t name ≡ Some w
      → role_of parts w ≡ role_or (role t) Plain
  known t kind name role w is at named =
      pin_role parts lawful.names lawful.pins t name w named (ap (λ k. is_pin_in k name) at ∙ is.0)
      ∙ ap (λ k. role_or (role_in t k name) Plain) at ∙ ap (λ r. role_or r Plain) (is.1 t)

  -- in a logic tile
  module _ (t : TileAt) (logic : kind_at parts t ≡ Some Logic) (w : ℕ) where
    pub input_plain : (i k : ℕ) → i < 8 → k < 4 → wire_named parts t (input_name i k) ≡ Some w → role_of parts w ≡ Plain
    input_plain i k lt le named = known t Logic (input_name i k) none w (input_names i k lt le) logic named

    pub output_is : (i : ℕ) → i < 8 → wire_named parts t (output_name i) ≡ Some w → role_of parts w ≡ Output t i
    output_is i lt named = known t Logic (output_name i) (λ u. Some (Output u i)) w (output_names i lt) logic named

    pub carry_is : (i : ℕ) → i < 8 → wire_named parts t (carry_out_name i) ≡ Some w → role_of parts w ≡ CarryOut t i
    carry_is i lt named = known t Logic (carry_out_name i) (λ u. Some (CarryOut u i)) w (carry_names i lt) logic named

    pub first_is : wire_named parts t first_carry_name ≡ Some w → role_of parts w ≡ CarryIn t
    first_is named = known t Logic first_carry_name (λ u. Some (CarryIn u)) w (refl, λ u. refl) logic named

    pub clock_plain : wire_named parts t clock_name ≡ Some w → role_of parts w ≡ Plain
    clock_plain named = known t Logic clock_name none w (refl, λ u. refl) logic named

    pub enable_is : wire_named parts t clock_enable_name ≡ Some w → role_of parts w ≡ ClockEnable
    enable_is named = known t Logic clock_enable_name (λ u. Some ClockEnable) w (refl, λ u. refl) logic named

    pub reset_plain : wire_named parts t set_reset_name ≡ Some w → role_of parts w ≡ Plain
    reset_plain named = known t Logic set_reset_name none w (refl, λ u. refl) logic named

  -- in an IO tile
  module _ (t : TileAt) (io : kind_at parts t ≡ Some Io) (w : ℕ) where
    pub pad_is : (pio : ℕ) → pio < 2 → wire_named parts t (pad_input_name pio) ≡ Some w → role_of parts w ≡ PadInput (record { tile = t; pio = pio })
    pad_is pio lt named = known t Io (pad_input_name pio) (λ u. Some (PadInput (record { tile = u; pio = pio }))) w (pad_names pio lt).0 io named

    pub pad_output_plain : (pio : ℕ) → pio < 2 → wire_named parts t (pad_output_name pio) ≡ Some w → role_of parts w ≡ Plain
    pad_output_plain pio lt named = known t Io (pad_output_name pio) none w (pad_names pio lt).1 io named

    pub pad_enable_plain : (pio : ℕ) → pio < 2 → wire_named parts t (output_enable_name pio) ≡ Some w → role_of parts w ≡ Plain
    pad_enable_plain pio lt named = known t Io (output_enable_name pio) none w (pad_names pio lt).2 io named

    pub fabout_plain : wire_named parts t fabout_name ≡ Some w → role_of parts w ≡ Plain
    fabout_plain named = known t Io fabout_name none w (refl, λ u. refl) io named

  -- of a global
  pub global_is : (n w : ℕ) → n < 8 → list_any (λ (m : PlacedName). bytes_eq m.name (global_name n)) (names_of parts w) ≡ true → role_of parts w ≡ Global n
  global_is n w lt e =
      let found = any_Has (λ (m : PlacedName). bytes_eq m.name (global_name n)) (names_of parts w) e in
      let m : PlacedName = found.0 in
      let named : m.name ≡ global_name n = bytes_same m.name (global_name n) found.2 in
      let stands = lawful.names.placed w m found.1 in
      let number = global_names n lt in
      let is : is_global_name m.name ≡ true = ap is_global_name named ∙ number.0 in
      let wire : wire_named parts m.tile m.name ≡ Some w = lawful.names.named m.tile m.name w found.1 in
      pin_role parts lawful.names lawful.pins m.tile m.name w wire (ap (λ k. is_pin_in k m.name) stands.1 ∙ global_pin stands.0 m.name is)
      ∙ ap (λ k. role_or (role_in m.tile k m.name) Plain) stands.1
      ∙ ap (λ r. role_or r Plain) (global_any m.name is m.tile stands.0)
      ∙ ap (λ (x : List ℕ). Global (number_at x 10)) named ∙ ap Global number.1
