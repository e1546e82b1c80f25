-- What the slot of a point has is what the point makes of the levels in the slots of what it reads.
use Rattle.std.proofs.Common.{◌≡◌, ℕ, suc, ◌+◌, ◌*◌, ◌≤◌, Bool, true, false, cond, List, [], ◌∷◌, map, length, Option, Some, None, refl, ap, sym, ◌∙◌, eqb-true, arith}
use Rattle.std.specs.Prelude.{◌==◌, ◌&&◌, codes, nat_lt, option_map, slice_index_or}
use Rattle.std.specs.Option.{option_map_or}
use Rattle.std.proofs.Math.ListN.{get_or-eq_default}
use Rattle.std.proofs.lemmas.Bool.{ltb-false}
use Rattle.ice_base.specs.declared.number.TileAt.{TileAt}
use Rattle.ice_base_values.specs.System.{reading}
use Rattle.ice_chip.specs.Database.{Parts, same_pad}
use Rattle.ice_chip.specs.Lookups.{gbufpin_of}
use Rattle.ice_chip.specs.declared.rows.Pad.{Pad}
use Rattle.ice_bits.specs.Configuration.{Bits}
use Rattle.ice_bits.specs.Settings.{set_at}
use Rattle.ice_net.specs.Meaning.{number_of, table_bit, majority}
use Rattle.ice_decode.specs.declared.point.Point.{Point}
use Rattle.ice_decode.specs.declared.point.Point.TheVariants.{Wire, Carry}
use Rattle.ice_decode.specs.declared.driver.Driver.{Driver}
use Rattle.ice_decode.specs.declared.driver.Driver.TheVariants as driver
use Rattle.ice_decode.specs.declared.role.Role.{Role}
use Rattle.ice_decode.specs.declared.role.Role.TheVariants.{Plain, Output, LookUp, CarryOut, PadInput, RamOutput, Global, CarryIn, ClockEnable}
use Rattle.ice_decode.specs.Drivers.{role_of, driver as driver_of}
use Rattle.ice_decode.specs.Cells.{logic_tiles, tile_place, has_carry, has_flop, table_entry, looked_up}
use Rattle.ice_decode.specs.Direct.{takes_pad}
use Rattle.ice_decode.specs.Reads.{at_pin, cell_inputs, carry_into, carry_inputs, global_feed, role_reads, driven_reads, reads_at}
use Rattle.ice_decode.specs.Pads.{is_enabled, level_of, pad_gives, stores, register_place, input_kept, has_input_register, kept_at}
use Rattle.ice_decode.specs.Meaning.{passes, global_gives, role_makes, driven_makes, makes_at}
use Rattle.ice_chip.specs.Names.{input_name}
use Rattle.ice_sim_sweep.specs.declared.parts.Feed.TheVariants.{Nothing, Kept, Made}
use Rattle.ice_sim.specs.declared.points.PointSlot.{PointSlot}
use Rattle.ice_sim.specs.declared.points.PointSlot.TheVariants.{Shared, Own}
use Rattle.ice_sim_sweep.specs.Slots.{level_at}
use Rattle.ice_sim_sweep.specs.Sweeps.{gate_level}
use Rattle.ice_sim_sweep.specs.Arrays.{feed_level}
use Rattle.ice_sim.specs.ChipSlots.{cell_place, slot_in, table_of, cell_gate, carry_gate, table_slot, pad_place, level_slot, pad_slot, fed_slot, register_feed, pad_register, kept_slot, role_slot, driven_slot, point_slot}
use Rattle.ice_sim_sweep.proofs.Feeding.{majority_bits}
use Rattle.ice_sim.proofs.TableBits.{bits_are, entry_is}

-- ---- pads
abbrev pub place_level : List Bool → Option ℕ → Bool
place_level levels None = false
place_level levels (Some k) = slice_index_or levels k false

behind : (x : Bool) (levels : List Bool) (o : Option ℕ) → place_level levels o ≡ place_level (x ∷ levels) (option_map suc o)
behind x levels None = refl
behind x levels (Some k) = refl

nowhere : (o : Option ℕ) → false ≡ place_level [] o
nowhere None = refl
nowhere (Some k) = refl

pub level_is : (bonded : List Pad) (levels : List Bool) (pad : Pad) → level_of bonded levels pad ≡ place_level levels (pad_place bonded pad)
level_is [] levels pad = refl
level_is (p ∷ bonded) [] pad = nowhere (pad_place (p ∷ bonded) pad)
level_is (p ∷ bonded) (x ∷ levels) pad = of (same_pad p pad) (level_is bonded levels pad)
  where
    of : (b : Bool) → level_of bonded levels pad ≡ place_level levels (pad_place bonded pad)
        → cond b x (level_of bonded levels pad) ≡ place_level (x ∷ levels) (cond b (Some 0) (option_map suc (pad_place bonded pad)))
    of true rec = refl
    of false rec = rec ∙ behind x levels (pad_place bonded pad)

-- ---- registers of pads
-- what a register of a pad keeps, where all stores have levels
pub register_is : (levels kept values : List Bool) (count : ℕ) → length kept ≡ count → (o : Option ℕ) (which : ℕ)
    → feed_level levels kept values (register_feed count o which) ≡ option_map_or (λ k. slice_index_or kept (k + which) false) o false
register_is levels kept values count long None which = refl
register_is levels kept values count long (Some k) which = of (nat_lt (k + which) count) refl
  where
    of : (b : Bool) → nat_lt (k + which) count ≡ b → feed_level levels kept values (cond b (Kept (k + which)) Nothing) ≡ slice_index_or kept (k + which) false
    of true e = refl
    of false e = let past : length kept ≤ k + which = (let le = ltb-false (k + which) count e in omega arith) in sym (get_or-eq_default kept false past)

-- ---- tables
-- what the table of a cell gives is a bit of its number
looked_is : (parts : Parts) (bits : Bits) (t : TileAt) (i : ℕ) (a b c d : Bool)
    → table_bit (table_of parts bits t i) (number_of (a ∷ b ∷ c ∷ d ∷ [])) ≡ looked_up parts bits t i (a ∷ b ∷ c ∷ d ∷ [])
looked_is parts bits t i a b c d =
    bits_are (map (table_entry parts bits t i) (0 ∷ 1 ∷ 2 ∷ 3 ∷ 4 ∷ 5 ∷ 6 ∷ 7 ∷ 8 ∷ 9 ∷ 10 ∷ 11 ∷ 12 ∷ 13 ∷ 14 ∷ 15 ∷ [])) (number_of (a ∷ b ∷ c ∷ d ∷ []))
    ∙ entry_is (table_entry parts bits t i) a b c d

four_same : (table : ℕ) (a b c d w x y z : Bool) → a ≡ w → b ≡ x → c ≡ y → d ≡ z
    → table_bit table (number_of (a ∷ b ∷ c ∷ d ∷ [])) ≡ table_bit table (number_of (w ∷ x ∷ y ∷ z ∷ []))
four_same table a b c d w x y z e f g h = rw (e, f, g, h) refl

module _ (parts : Parts) (bits : Bits) (slots : List ℕ) (values : List Bool) (zero_is : level_at values 0 ≡ false) where
  -- the level in the slot of a point
  abbrev pub v : Point → Bool
  v q = level_at values (slot_in parts slots q)

  read_level : (o : Option Point) → level_at values (reading 0 (slot_in parts slots) o) ≡ reading false v o
  read_level None = zero_is
  read_level (Some q) = refl

  -- the table of a cell over slots
  pub cell_makes : (t : TileAt) (i out : ℕ) → gate_level values (cell_gate parts bits slots out t i) ≡ looked_up parts bits t i (map (reading false v) (cell_inputs parts t i))
  cell_makes t i out =
      four_same (table_of parts bits t i)
      (level_at values (reading 0 (slot_in parts slots) (at_pin parts t (input_name i 0)))) (level_at values (reading 0 (slot_in parts slots) (at_pin parts t (input_name i 1))))
      (level_at values (reading 0 (slot_in parts slots) (at_pin parts t (input_name i 2)))) (level_at values (reading 0 (slot_in parts slots) (at_pin parts t (input_name i 3))))
      (reading false v (at_pin parts t (input_name i 0))) (reading false v (at_pin parts t (input_name i 1)))
      (reading false v (at_pin parts t (input_name i 2))) (reading false v (at_pin parts t (input_name i 3)))
      (read_level (at_pin parts t (input_name i 0))) (read_level (at_pin parts t (input_name i 1)))
      (read_level (at_pin parts t (input_name i 2))) (read_level (at_pin parts t (input_name i 3)))
      ∙ looked_is parts bits t i (reading false v (at_pin parts t (input_name i 0))) (reading false v (at_pin parts t (input_name i 1)))
      (reading false v (at_pin parts t (input_name i 2))) (reading false v (at_pin parts t (input_name i 3)))

  -- the carry of a cell over slots
  carry_makes : (t : TileAt) (i out : ℕ) → gate_level values (carry_gate parts slots out t i)
      ≡ majority (reading false v (at_pin parts t (input_name i 1))) (reading false v (at_pin parts t (input_name i 2))) (reading false v (carry_into parts t i))
  carry_makes t i out =
      four_same 232
      (level_at values (reading 0 (slot_in parts slots) (at_pin parts t (input_name i 1)))) (level_at values (reading 0 (slot_in parts slots) (at_pin parts t (input_name i 2))))
      (level_at values (reading 0 (slot_in parts slots) (carry_into parts t i))) (level_at values 0)
      (reading false v (at_pin parts t (input_name i 1))) (reading false v (at_pin parts t (input_name i 2))) (reading false v (carry_into parts t i)) false
      (read_level (at_pin parts t (input_name i 1))) (read_level (at_pin parts t (input_name i 2))) (read_level (carry_into parts t i)) zero_is
      ∙ sym (majority_bits (reading false v (at_pin parts t (input_name i 1))) (reading false v (at_pin parts t (input_name i 2))) (reading false v (carry_into parts t i)))

  module _ (extras : List (ℕ × ℕ × ℕ)) (bonded : List Pad) (levels kept : List Bool) (long : length kept ≡ length (stores parts)) (one_is : level_at values 1 ≡ true) where
    -- the level that a slot is to have
    abbrev pub slot_level : PointSlot → Bool
    slot_level (Shared s) = level_at values s
    slot_level (Own feed) = feed_level levels kept values feed

    table_makes : (t : TileAt) (i next : ℕ) → slot_level (table_slot parts bits slots next t i) ≡ looked_up parts bits t i (map (reading false v) (cell_inputs parts t i))
    table_makes t i next = of (table_of parts bits t i == 0) refl
      where
        of : (b : Bool) → (table_of parts bits t i == 0) ≡ b
            → slot_level (cond b (Shared 0) (Own (Made (cell_gate parts bits slots next t i)))) ≡ looked_up parts bits t i (map (reading false v) (cell_inputs parts t i))
        of false e = cell_makes t i next
        of true e =
            let none : table_of parts bits t i ≡ 0 = eqb-true (table_of parts bits t i) 0 e in
            zero_is
            ∙ sym (bits_are [] (number_of (map (reading false v) (cell_inputs parts t i))))
            ∙ ap (λ n. table_bit n (number_of (map (reading false v) (cell_inputs parts t i)))) (sym none)
            ∙ looked_is parts bits t i (reading false v (at_pin parts t (input_name i 0))) (reading false v (at_pin parts t (input_name i 1)))
            (reading false v (at_pin parts t (input_name i 2))) (reading false v (at_pin parts t (input_name i 3)))

    kept_is : (o : Option ℕ) (i : ℕ) → slot_level (kept_slot (option_map (λ k. 8 * k + i) o)) ≡ option_map_or (λ k. slice_index_or kept (8 * k + i) false) o false
    kept_is None i = zero_is
    kept_is (Some k) i = refl

    place_is : (o : Option ℕ) → slot_level (level_slot o) ≡ place_level levels o
    place_is None = zero_is
    place_is (Some k) = refl

    pad_is : (pad : Pad) → slot_level (pad_slot parts bits bonded pad) ≡ pad_gives parts bits bonded levels pad
    pad_is pad = of (is_enabled parts bits pad)
      where
        of : (b : Bool) → slot_level (cond b (level_slot (pad_place bonded pad)) (Shared 0)) ≡ b && level_of bonded levels pad
        of true = place_is (pad_place bonded pad) ∙ sym (level_is bonded levels pad)
        of false = zero_is

    fed_is : (o : Option Pad) → slot_level (fed_slot parts bits bonded o) ≡ global_gives parts bits bonded levels o
    fed_is None = zero_is
    fed_is (Some pad) = pad_is pad

    role_is : (next : ℕ) (role : Role) → slot_level (role_slot parts bits extras bonded slots next role) ≡ role_makes parts bits extras bonded levels kept role (map (reading false v) (role_reads parts bits extras role))
    role_is next Plain = zero_is
    role_is next (Output t i) = of (has_flop parts bits t i)
      where
        of : (b : Bool) → slot_level (cond b (kept_slot (cell_place parts t i)) (table_slot parts bits slots next t i))
            ≡ cond b (kept_at parts kept t i) (looked_up parts bits t i (map (reading false v) (cond b [] (cell_inputs parts t i))))
        of true = kept_is (tile_place t (logic_tiles parts)) i
        of false = table_makes t i next
    role_is next (LookUp t i) = table_makes t i next
    role_is next (CarryOut t i) = refl
    role_is next (PadInput pad) = of (has_input_register parts bits pad)
      where
        of : (b : Bool) → slot_level (cond b (Own (pad_register parts pad 0)) (pad_slot parts bits bonded pad)) ≡ cond b (input_kept parts kept pad) (pad_gives parts bits bonded levels pad)
        of true = register_is levels kept values (length (stores parts)) long (register_place parts pad) 0
        of false = pad_is pad
    role_is next (RamOutput pad) = place_is (pad_place bonded pad) ∙ sym (level_is bonded levels pad)
    role_is next (Global n) = of (takes_pad parts extras n)
      where
        of : (b : Bool) → slot_level (cond b (fed_slot parts bits bonded (gbufpin_of parts n)) (Shared (reading 0 (slot_in parts slots) (global_feed parts n))))
            ≡ cond b (global_gives parts bits bonded levels (gbufpin_of parts n)) (slice_index_or (map (reading false v) (cond b [] (global_feed parts n ∷ []))) 0 false)
        of true = fed_is (gbufpin_of parts n)
        of false = read_level (global_feed parts n)
    role_is next (CarryIn t) = of (set_at parts bits t (codes "CarryInSet") 0)
      where
        of : (b : Bool) → level_at values (cond b 1 0) ≡ b
        of true = one_is
        of false = zero_is
    role_is next ClockEnable = one_is

    driven_is : (next : ℕ) (role : Role) (d : Driver)
        → slot_level (driven_slot parts bits extras bonded slots next role d) ≡ driven_makes parts bits extras bonded levels kept role d (map (reading false v) (driven_reads parts bits extras role d))
    driven_is next role driver.Nothing = role_is next role
    driven_is next role (driver.By s) = of (passes parts bits s)
      where
        of : (b : Bool) → level_at values (cond b (slot_in parts slots (Wire s.source)) 0) ≡ b && v (Wire s.source)
        of true = refl
        of false = zero_is
    driven_is next role (driver.Several first second) = zero_is

    -- what a carry makes of what it reads
    abbrev majority_read : List Bool → Bool
    majority_read xs = majority (slice_index_or xs 0 false) (slice_index_or xs 1 false) (slice_index_or xs 2 false)

    -- what gives a point its level
    pub point_is : (next : ℕ) (p : Point)
        → slot_level (point_slot parts bits extras bonded slots next p) ≡ makes_at parts bits extras bonded levels kept p (map (reading false v) (reads_at parts bits extras p))
    point_is next (Wire w) = driven_is next (role_of parts w.0) (driver_of parts bits w.0)
    point_is next (Carry t i) = of (has_carry parts bits t i)
      where
        of : (b : Bool) → slot_level (cond b (Own (Made (carry_gate parts slots next t i))) (Shared 0)) ≡ majority_read (map (reading false v) (cond b (carry_inputs parts t i) []))
        of true = carry_makes t i next
        of false = zero_is
