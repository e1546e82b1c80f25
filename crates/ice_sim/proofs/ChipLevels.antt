-- The levels of the points of a chip are those in their slots.
use Rattle.std.proofs.Common.{◌≡◌, ℕ, suc, ◌+◌, ◌<◌, ◌≤◌, Bool, true, false, cond, List, [], ◌∷◌, ◌++◌, length, map, Option, Some, None, refl, ap, sym, ◌∙◌, subst, arith, length-append}
use Rattle.std.specs.Prelude.{◌==◌, ◌/◌, ◌-◌, ◌&&◌, nat_lt, option_map, unwrap_or}
use Rattle.std.specs.List.{range_with_len}
use Rattle.std.proofs.lemmas.List.{length-map, get_or-append-add}
use Rattle.std.proofs.lemmas.List.FromFn.{length-range_with_len}
use Rattle.std.proofs.lemmas.List.Elements.{All-map, All-filter}
use Rattle.std.proofs.lemmas.Option.{same_Some, slice_get_within}
use Rattle.ice_base.specs.declared.number.TileAt.{TileAt}
use Rattle.ice_base_values.specs.System.{System, reading}
use Rattle.ice_base_values.specs.Simulations.{MeetsEquation}
use Rattle.ice_base_values.specs.Order.{At, Has}
use Rattle.ice_base_values.proofs.Values.{value_ranked}
use Rattle.ice_base_values.proofs.Gaps.{local_gapped}
use Rattle.ice_base.proofs.Entries.{lookup_all}
use Rattle.ice_chip.specs.Database.{Parts, WireName}
use Rattle.ice_chip.specs.IsRead.{IsRead}
use Rattle.ice_chip.specs.Lookups.{wire_named, placed_at, placed_wire, placed_names, is_placed}
use Rattle.ice_chip.specs.WholeFaults.{same_placed}
use Rattle.ice_chip.specs.declared.rows.Pad.{Pad}
use Rattle.ice_chip.specs.declared.placed.PlacedName.{PlacedName}
use Rattle.ice_bits.specs.Configuration.{Bits}
use Rattle.ice_net.specs.declared.driver.Drive.TheVariants.{Off}
use Rattle.ice_net.specs.Drives.{level_drive}
use Rattle.ice_decode.specs.declared.point.Point.{Point}
use Rattle.ice_chip.specs.Names.{input_name, pad_output_name, output_enable_name}
use Rattle.ice_chip.specs.RamNames.{ram_name}
use Rattle.ice_decode.specs.Cells.{cells, logic_tiles, looked_up}
use Rattle.ice_decode.specs.Reads.{wire_point, count_points, at_pin, reads_at}
use Rattle.ice_decode.specs.Points.{carry_point, points}
use Rattle.ice_decode.specs.Pads.{is_enabled, level_of, pad_gives, pin_type, pin_level, part_drive, stores, register_place, output_kept, has_output_register}
use Rattle.ice_decode.specs.Loops.{IsOrderOf}
use Rattle.ice_decode.specs.Meaning.{makes_at, chip_system, point_level, table_level, drive_at, pad_drive, is_ram_driven, ram_drive}
use Rattle.ice_decode.proofs.PointPlaces.{wire_at}
use Rattle.ice_sim_sweep.specs.Slots.{level_at}
use Rattle.ice_sim_sweep.specs.Sweeps.{gate_level, tap_drive}
use Rattle.ice_sim_sweep.specs.declared.parts.Feed.{Feed}
use Rattle.ice_sim_sweep.specs.declared.parts.Feed.TheVariants.{Nothing}
use Rattle.ice_sim_sweep.specs.Arrays.{feed_level, feed_at, Obeys}
use Rattle.ice_sim.specs.ChipSlots.{slot_in, pin_slot, cell_gate, pad_place, pad_register}
use Rattle.ice_sim.specs.Layouts.{Layout, level_feed, input_feed, output_feed, part_tap, io_tap, ram_enable_slot, ram_tap, no_tap, pad_tap, taps_from}
use Rattle.ice_sim.proofs.PointLevels.{place_level, level_is as pad_level_is, register_is, cell_makes}
use Rattle.ice_sim.proofs.Laying.{IsLaid, zero_level, one_level, feed_left}

-- ---- points of the chip
pub points_long : (parts : Parts) → length (points parts) ≡ count_points parts
points_long parts =
    length-append (map wire_point (range_with_len 0 parts.wires)) (map carry_point (cells parts))
    ∙ ap (λ n. n + length (map carry_point (cells parts))) (length-map (range_with_len 0 parts.wires) wire_point ∙ length-range_with_len 0 parts.wires)
    ∙ ap (λ n. parts.wires + n) (length-map (cells parts) carry_point)

named_below : (parts : Parts) → IsRead parts → (t : TileAt) (name : List ℕ) (w : ℕ) → wire_named parts t name ≡ Some w → w < parts.wires
named_below parts read t name w e =
    lookup_all (λ (k : ℕ). k < parts.wires) (same_placed (placed_at t name)) (map placed_wire (placed_names parts))
    (All-map (λ (x : PlacedName × ℕ). x.1 < parts.wires) placed_wire (placed_names parts)
    (All-filter (is_placed parts.tiles) (λ (n : WireName). n.wire < parts.wires) parts.names read.named_wires)) w e

pub pin_there : (parts : Parts) → IsRead parts → (t : TileAt) (name : List ℕ) (q : Point) → at_pin parts t name ≡ Some q → Has (points parts) q
pin_there parts read t name q e = of (wire_named parts t name) refl e
  where
    of : (o : Option ℕ) → wire_named parts t name ≡ o → option_map wire_point o ≡ Some q → Has (points parts) q
    of None f g = cc g
    of (Some w) f g = subst (Has (points parts)) (same_Some (wire_point w) q g) (w, wire_at parts.wires (logic_tiles parts) w (named_below parts read t name w f))

four_list : (parts : Parts) (bits : Bits) (t : TileAt) (i : ℕ) (a b c d w x y z : Bool) → a ≡ w → b ≡ x → c ≡ y → d ≡ z
    → looked_up parts bits t i (a ∷ b ∷ c ∷ d ∷ []) ≡ looked_up parts bits t i (w ∷ x ∷ y ∷ z ∷ [])
four_list parts bits t i a b c d w x y z e f g h = rw (e, f, g, h) refl

-- ---- slots with feeds
-- slots from `next` on have the levels that these feeds give them
abbrev pub Holds : List Bool → List Bool → List Bool → ℕ → List Feed → Type 0
Holds levels kept values next feeds = (s : ℕ) → s < length feeds → level_at values (next + s) ≡ feed_level levels kept values (feed_at feeds s)

module _ (levels kept values : List Bool) where
  pub holds_head : (next : ℕ) (feed : Feed) (feeds : List Feed) → Holds levels kept values next (feed ∷ feeds) → level_at values next ≡ feed_level levels kept values feed
  holds_head next feed feeds holds =
      let e : next + 0 ≡ next = omega arith in
      subst (λ n. level_at values n ≡ feed_level levels kept values feed) e (holds 0 (omega arith))

  pub holds_tail : (next : ℕ) (feed : Feed) (feeds : List Feed) → Holds levels kept values next (feed ∷ feeds) → Holds levels kept values (suc next) feeds
  holds_tail next feed feeds holds = λ s lt.
      let e : next + suc s ≡ suc next + s = omega arith in
      subst (λ n. level_at values n ≡ feed_level levels kept values (feed_at feeds s)) e (holds (suc s) (omega arith))

  pub holds_left : (next : ℕ) (feeds more : List Feed) → Holds levels kept values next (feeds ++ more) → Holds levels kept values next feeds
  holds_left next feeds more holds = λ s lt.
      holds s (let long = length-append feeds more in omega arith) ∙ ap (feed_level levels kept values) (feed_left feeds more s lt)

  pub holds_right : (next : ℕ) (feeds more : List Feed) → Holds levels kept values next (feeds ++ more) → Holds levels kept values (next + length feeds) more
  holds_right next feeds more holds = λ s lt.
      let e : next + (length feeds + s) ≡ next + length feeds + s = omega arith in
      ap (level_at values) (sym e)
      ∙ holds (length feeds + s) (let long = length-append feeds more in omega arith)
      ∙ ap (feed_level levels kept values) (get_or-append-add feeds more s Nothing)

  place_given : (o : Option ℕ) → feed_level levels kept values (level_feed o) ≡ place_level levels o
  place_given None = refl
  place_given (Some k) = refl

  -- what a pad gives to its register
  pub input_is : (parts : Parts) (bits : Bits) (bonded : List Pad) (pad : Pad) → feed_level levels kept values (input_feed parts bits bonded pad) ≡ pad_gives parts bits bonded levels pad
  input_is parts bits bonded pad = of (is_enabled parts bits pad)
    where
      of : (b : Bool) → feed_level levels kept values (cond b (level_feed (pad_place bonded pad)) Nothing) ≡ b && level_of bonded levels pad
      of true = place_given (pad_place bonded pad) ∙ sym (pad_level_is bonded levels pad)
      of false = refl

module _ (parts : Parts) (bits : Bits) (extras : List (ℕ × ℕ × ℕ)) (bonded : List Pad) (order : List Point) (o : IsOrderOf parts bits extras order) (read : IsRead parts) (l : Layout)
    (laid_ : IsLaid parts bits extras bonded order (length order) l) (levels kept values : List Bool) (kept_long : length kept ≡ length (stores parts)) (obeys : Obeys l.feeds levels kept values) where
  abbrev v : Point → Bool
  v q = level_at values (slot_in parts l.slots q)

  -- the level of a point by its meaning
  abbrev pub w : Point → Bool
  w = point_level parts bits extras bonded levels kept

  pub zero_is : level_at values 0 ≡ false
  zero_is = zero_level l.feeds levels kept values laid_.some laid_.first obeys

  one_is : level_at values 1 ≡ true
  one_is = one_level l.feeds levels kept values laid_.some laid_.first laid_.second obeys

  abbrev system : System Point Bool
  system = chip_system parts bits extras bonded levels kept

  meets : (j : ℕ) (p : Point) → At order j p → MeetsEquation system v p
  meets j p at =
      (laid_.meets j p at (slice_get_within order j p at)).is levels kept values kept_long obeys
      ∙ sym (local_gapped (reads_at parts bits extras) false (makes_at parts bits extras bonded levels kept) v p)

  -- each point of the chip has its level in its slot
  pub level_is : (p : Point) → Has (points parts) p → w p ≡ v p
  level_is p has =
      let there = o.each p has in
      let inside : there.0 < length order = slice_get_within order there.0 p there.1 in
      let few : length order ≤ length (points parts) = o.few in
      let many : length (points parts) ≡ count_points parts = points_long parts in
      let enough : there.0 < count_points parts + 1 = omega arith in
      ap (λ x. unwrap_or x false) (value_ranked system (At order) v o.after meets (count_points parts + 1) there.0 p there.1 enough)

  -- a pin has the level in its slot
  read_is : (bare : Bool) (slot : ℕ) → level_at values slot ≡ bare → (p : Option Point) → ((q : Point) → p ≡ Some q → Has (points parts) q)
      → reading bare w p ≡ level_at values (reading slot (slot_in parts l.slots) p)
  read_is bare slot is None there = sym is
  read_is bare slot is (Some q) there = level_is q (there q refl)

  pub pin_zero : (t : TileAt) (name : List ℕ) → pin_level false parts w t name ≡ level_at values (pin_slot 0 parts l.slots t name)
  pin_zero t name = read_is false 0 zero_is (at_pin parts t name) (λ q e. pin_there parts read t name q e)

  pub pin_one : (t : TileAt) (name : List ℕ) → pin_level true parts w t name ≡ level_at values (pin_slot 1 parts l.slots t name)
  pin_one t name = read_is true 1 one_is (at_pin parts t name) (λ q e. pin_there parts read t name q e)

  -- what is read by the one and by the other
  read_same : (p : Option Point) → ((q : Point) → p ≡ Some q → Has (points parts) q) → reading false v p ≡ reading false w p
  read_same None there = refl
  read_same (Some q) there = sym (level_is q (there q refl))

  input_same : (t : TileAt) (i k : ℕ) → reading false v (at_pin parts t (input_name i k)) ≡ reading false w (at_pin parts t (input_name i k))
  input_same t i k = read_same (at_pin parts t (input_name i k)) (λ q e. pin_there parts read t (input_name i k) q e)

  -- the table of a cell over slots
  pub table_is : (t : TileAt) (i out : ℕ) → gate_level values (cell_gate parts bits l.slots out t i) ≡ table_level parts bits w t i
  table_is t i out =
      cell_makes parts bits l.slots values zero_is t i out
      ∙ four_list parts bits t i
      (reading false v (at_pin parts t (input_name i 0))) (reading false v (at_pin parts t (input_name i 1)))
      (reading false v (at_pin parts t (input_name i 2))) (reading false v (at_pin parts t (input_name i 3)))
      (reading false w (at_pin parts t (input_name i 0))) (reading false w (at_pin parts t (input_name i 1)))
      (reading false w (at_pin parts t (input_name i 2))) (reading false w (at_pin parts t (input_name i 3)))
      (input_same t i 0) (input_same t i 1) (input_same t i 2) (input_same t i 3)

  -- ---- pads
  part_is : (part own level enable : ℕ) (x y z : Bool) → x ≡ level_at values level → y ≡ level_at values enable → ((part == 5) ≡ true → z ≡ level_at values own)
      → tap_drive values (part_tap part own level enable) ≡ part_drive part x y z
  part_is part own level enable x y z e f g = by (part == 5) (part == 6) (part == 10) g
    where
      by : (kept_there always enabled : Bool) → (kept_there ≡ true → z ≡ level_at values own)
          → tap_drive values (cond kept_there (record { level = own; enable = 1 })
          (cond always (record { level = level; enable = 1 }) (cond enabled (record { level = level; enable = enable }) (record { level = 0; enable = 0 }))))
          ≡ cond kept_there (level_drive z) (cond always (level_drive x) (cond enabled (cond y (level_drive x) Off) Off))
      by true always enabled h = ap (λ b. cond b (level_drive (level_at values own)) Off) one_is ∙ ap level_drive (sym (h refl))
      by false true enabled h = ap (λ b. cond b (level_drive (level_at values level)) Off) one_is ∙ ap level_drive (sym e)
      by false false true h = ap (λ w. cond (level_at values enable) (level_drive w) Off) (sym e) ∙ ap (λ b. cond b (level_drive x) Off) (sym f)
      by false false false h = ap (λ b. cond b (level_drive (level_at values 0)) Off) zero_is

  -- what a pad is driven with that is driven with what a register keeps
  output_is : (pad : Pad) → has_output_register parts bits pad ≡ true → feed_level levels kept values (output_feed parts bits pad) ≡ output_kept parts kept pad
  output_is pad e =
      ap (λ b. feed_level levels kept values (cond b (pad_register parts pad 1) Nothing)) e
      ∙ register_is levels kept values (length (stores parts)) kept_long (register_place parts pad) 1

  io_is : (own : ℕ) (pad : Pad) → level_at values own ≡ feed_level levels kept values (output_feed parts bits pad)
      → tap_drive values (io_tap parts bits l.slots own pad) ≡ pad_drive parts bits kept w pad
  io_is own pad fed =
      part_is (pin_type parts bits pad / 4) own (pin_slot 0 parts l.slots pad.tile (pad_output_name pad.pio)) (pin_slot 0 parts l.slots pad.tile (output_enable_name pad.pio))
      (pin_level false parts w pad.tile (pad_output_name pad.pio)) (pin_level false parts w pad.tile (output_enable_name pad.pio)) (output_kept parts kept pad)
      (pin_zero pad.tile (pad_output_name pad.pio)) (pin_zero pad.tile (output_enable_name pad.pio)) (λ e. sym (fed ∙ output_is pad e))

  -- the pins of block RAMs
  ram_enabled : (t : TileAt) (n : ℕ) → level_at values (ram_enable_slot parts l.slots t n) ≡ is_ram_driven parts w t n
  ram_enabled t n = by (n == 72) (n == 73)
    where
      by : (reads writes : Bool)
          → level_at values (cond reads (pin_slot 1 parts l.slots t (ram_name 74)) (cond writes (pin_slot 1 parts l.slots t (ram_name 75)) 1))
          ≡ cond reads (pin_level true parts w t (ram_name 74)) (cond writes (pin_level true parts w t (ram_name 75)) true)
      by true writes = sym (pin_one t (ram_name 74))
      by false true = sym (pin_one t (ram_name 75))
      by false false = one_is

  ram_is : (t : TileAt) (n : ℕ) → tap_drive values (ram_tap parts l.slots t n) ≡ ram_drive parts w t n
  ram_is t n =
      ap (λ b. cond b (level_drive (level_at values (pin_slot 0 parts l.slots t (ram_name n)))) Off) (ram_enabled t n)
      ∙ ap (λ b. cond (is_ram_driven parts w t n) (level_drive b) Off) (sym (pin_zero t (ram_name n)))

  no_drive : tap_drive values no_tap ≡ Off
  no_drive = ap (λ b. cond b (level_drive (level_at values 0)) Off) zero_is

  pad_is : (own : ℕ) (pad : Pad) → level_at values own ≡ feed_level levels kept values (output_feed parts bits pad)
      → tap_drive values (pad_tap parts bits l.slots own pad) ≡ drive_at parts bits kept w pad
  pad_is own pad fed = by (nat_lt pad.pio 2) (nat_lt pad.pio 78)
    where
      by : (io ram : Bool)
          → tap_drive values (cond io (io_tap parts bits l.slots own pad) (cond ram (ram_tap parts l.slots pad.tile (pad.pio - 2)) no_tap))
          ≡ cond io (pad_drive parts bits kept w pad) (cond ram (ram_drive parts w pad.tile (pad.pio - 2)) Off)
      by true ram = io_is own pad fed
      by false true = ram_is pad.tile (pad.pio - 2)
      by false false = no_drive

  pub pads_are : (pads : List Pad) (own : ℕ) → Holds levels kept values own (map (output_feed parts bits) pads)
      → map (tap_drive values) (taps_from parts bits l.slots own pads) ≡ map (drive_at parts bits kept w) pads
  pads_are [] own holds = refl
  pads_are (pad ∷ pads) own holds =
      ap (λ d. d ∷ map (tap_drive values) (taps_from parts bits l.slots (suc own) pads))
      (pad_is own pad (holds_head levels kept values own (output_feed parts bits pad) (map (output_feed parts bits) pads) holds))
      ∙ ap (λ ds. drive_at parts bits kept w pad ∷ ds) (pads_are pads (suc own) (holds_tail levels kept values own (output_feed parts bits pad) (map (output_feed parts bits) pads) holds))
