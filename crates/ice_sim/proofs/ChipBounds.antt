-- The parts of a compiled chip stay within the pads, the stores and the slots.
use Rattle.std.proofs.Common.{◌≡◌, ℕ, suc, ◌+◌, ◌<◌, ◌≤◌, Bool, true, false, cond, List, [], ◌∷◌, ◌++◌, length, map, Option, Some, None, All, refl, subst, arith, length-append}
use Rattle.std.specs.Prelude.{◌==◌, ◌/◌, ◌-◌, nat_lt, codes, slice_index_or}
use Rattle.std.proofs.lemmas.List.Elements.{All-append, All-nil, All-cons}
use Rattle.ice_base.specs.declared.number.TileAt.{TileAt}
use Rattle.ice_chip.specs.Database.{Parts}
use Rattle.ice_chip.specs.declared.rows.Pad.{Pad}
use Rattle.ice_bits.specs.Configuration.{Bits}
use Rattle.ice_base_values.specs.System.{reading}
use Rattle.ice_decode.specs.declared.point.Point.{Point}
use Rattle.ice_chip.specs.Names.{pad_output_name, output_enable_name, input_clock_name, output_clock_name, in_out_enable_name}
use Rattle.ice_chip.specs.RamNames.{ram_name}
use Rattle.ice_decode.specs.Cells.{has_flop}
use Rattle.ice_decode.specs.Reads.{at_pin}
use Rattle.ice_decode.specs.Pads.{is_enabled, pin_type, Store, CellStore, InputStore, OutputStore, stores, register_place, has_input_register, has_output_register}
use Rattle.ice_sim_sweep.specs.declared.parts.Gate.{Gate}
use Rattle.ice_sim_sweep.specs.declared.parts.Keeper.{Keeper}
use Rattle.ice_sim_sweep.specs.declared.parts.Feed.{Feed}
use Rattle.ice_sim_sweep.specs.declared.parts.Feed.TheVariants.{Nothing, Port as FromPort, Kept, Made}
use Rattle.ice_sim_sweep.specs.Feeds.{port_in, kept_in, linked, gate_in}
use Rattle.ice_sim_sweep.specs.Plans.{IsLinkWithin, IsGateWithin, IsTapWithin, IsKeeperWithin}
use Rattle.ice_sim_sweep.specs.Arrays.{links_from, gates_from, IsGateAt, IsFed, AreFed}
use Rattle.ice_sim.specs.ChipSlots.{slot_in, pin_slot, number, cell_gate, pad_place, pad_register}
use Rattle.ice_sim.specs.Layouts.{keeper_of, register_of, level_feed, input_feed, output_feed, store_keepers, store_feeds, next_slot, keepers_from, feeds_from, io_tap, ram_tap, no_tap, pad_tap, taps_from}
use Rattle.ice_sim.proofs.Laying.{cell_gate_at, place_within, register_fits}

-- ---- feeds
module _ (ports count : ℕ) where
  pub fed_append : (xs ys : List Feed) (s : ℕ) → AreFed ports count s xs → AreFed ports count (s + length xs) ys → AreFed ports count s (xs ++ ys)
  fed_append [] ys s a b = let e : s + 0 ≡ s = omega arith in subst (λ k. AreFed ports count k ys) e b
  fed_append (x ∷ xs) ys s a b =
      let e : s + suc (length xs) ≡ suc s + length xs = omega arith in
      (a.0, fed_append xs ys (suc s) a.1 (subst (λ k. AreFed ports count k ys) e b))

  port_small : (s k : ℕ) (f : Feed) → IsFed ports count s f → port_in f ≡ Some k → k < ports
  port_small s k Nothing ok e = cc e
  port_small s k (FromPort m) ok e = let same : m ≡ k = cc e in subst (λ n. n < ports) same ok
  port_small s k (Kept i) ok e = cc e
  port_small s k (Made gate) ok e = cc e

  kept_small : (s k : ℕ) (f : Feed) → IsFed ports count s f → kept_in f ≡ Some k → k < count
  kept_small s k Nothing ok e = cc e
  kept_small s k (FromPort m) ok e = cc e
  kept_small s k (Kept i) ok e = let same : i ≡ k = cc e in subst (λ n. n < count) same ok
  kept_small s k (Made gate) ok e = cc e

  module _ (slots : ℕ) where
    links_within : (source : Feed → Option ℕ) (bound : ℕ) → ((s k : ℕ) (f : Feed) → IsFed ports count s f → source f ≡ Some k → k < bound)
        → (feeds : List Feed) (s : ℕ) → AreFed ports count s feeds → s + length feeds ≤ slots → All (IsLinkWithin bound slots) (links_from source s feeds)
    links_within source bound small [] s fed le = All-nil (IsLinkWithin bound slots)
    links_within source bound small (feed ∷ feeds) s fed le =
        All-append (IsLinkWithin bound slots) (linked s (source feed)) (links_from source (suc s) feeds) (of (source feed) refl)
        (links_within source bound small feeds (suc s) fed.1 (omega arith))
      where
        of : (o : Option ℕ) → source feed ≡ o → All (IsLinkWithin bound slots) (linked s o)
        of None e = All-nil (IsLinkWithin bound slots)
        of (Some k) e = All-cons (IsLinkWithin bound slots) (record { from = k; to = s }) [] (record { from_within = small s k feed fed.0 e; to_within = omega arith }) (All-nil (IsLinkWithin bound slots))

    pub ports_within : (feeds : List Feed) → AreFed ports count 0 feeds → length feeds ≤ slots → All (IsLinkWithin ports slots) (links_from port_in 0 feeds)
    ports_within feeds fed le = links_within port_in ports port_small feeds 0 fed (omega arith)

    pub keeps_within : (feeds : List Feed) → AreFed ports count 0 feeds → length feeds ≤ slots → All (IsLinkWithin count slots) (links_from kept_in 0 feeds)
    keeps_within feeds fed le = links_within kept_in count kept_small feeds 0 fed (omega arith)

    gate_within : (s : ℕ) (gate : Gate) → IsGateAt s gate → s < slots → IsGateWithin slots gate
    gate_within s gate at lt =
        let out = at.out_is in
        let a = at.first_before in
        let b = at.second_before in
        let c = at.third_before in
        let d = at.fourth_before in
        record { first_within = omega arith; second_within = omega arith; third_within = omega arith; fourth_within = omega arith; out_within = omega arith }

    gates_from_within : (feeds : List Feed) (s : ℕ) → AreFed ports count s feeds → s + length feeds ≤ slots → All (IsGateWithin slots) (gates_from feeds)
    gates_from_within [] s fed le = All-nil (IsGateWithin slots)
    gates_from_within (feed ∷ feeds) s fed le =
        All-append (IsGateWithin slots) (gate_in feed) (gates_from feeds) (of feed fed.0) (gates_from_within feeds (suc s) fed.1 (omega arith))
      where
        of : (f : Feed) → IsFed ports count s f → All (IsGateWithin slots) (gate_in f)
        of Nothing ok = All-nil (IsGateWithin slots)
        of (FromPort k) ok = All-nil (IsGateWithin slots)
        of (Kept i) ok = All-nil (IsGateWithin slots)
        of (Made gate) ok = All-cons (IsGateWithin slots) gate [] (gate_within s gate ok (omega arith)) (All-nil (IsGateWithin slots))

    pub gates_within : (feeds : List Feed) → AreFed ports count 0 feeds → length feeds ≤ slots → All (IsGateWithin slots) (gates_from feeds)
    gates_within feeds fed le = gates_from_within feeds 0 fed (omega arith)

-- ---- stores and pads, where the slots of points are below `first`
module _ (parts : Parts) (bits : Bits) (extras : List (ℕ × ℕ × ℕ)) (bonded : List Pad) (layout : List ℕ) (first : ℕ) (some : 1 < first) (low : (n : ℕ) → slice_index_or layout n 0 < first) where
  pin_low : (bare : ℕ) (t : TileAt) (name : List ℕ) → bare < 2 → pin_slot bare parts layout t name < first
  pin_low bare t name lt = of (at_pin parts t name)
    where
      of : (o : Option Point) → reading bare (slot_in parts layout) o < first
      of None = omega arith
      of (Some q) = low (number parts q)

  input_fed : (next : ℕ) (pad : Pad) → IsFed (length bonded) (length (stores parts)) next (input_feed parts bits bonded pad)
  input_fed next pad = of (is_enabled parts bits pad)
    where
      place : (o : Option ℕ) → pad_place bonded pad ≡ o → IsFed (length bonded) (length (stores parts)) next (level_feed o)
      place None e = tt
      place (Some k) e = place_within bonded pad k e

      of : (b : Bool) → IsFed (length bonded) (length (stores parts)) next (cond b (level_feed (pad_place bonded pad)) Nothing)
      of true = place (pad_place bonded pad) refl
      of false = tt

  one_fed : (next : ℕ) (b : Bool) (feed : Feed) → IsFed (length bonded) (length (stores parts)) next feed → AreFed (length bonded) (length (stores parts)) next (cond b (feed ∷ []) [])
  one_fed next true feed fed = (fed, tt)
  one_fed next false feed fed = tt

  store_fed : (s : Store) (next : ℕ) → first ≤ next → AreFed (length bonded) (length (stores parts)) next (store_feeds parts bits bonded layout next s)
  store_fed (CellStore t i) next le =
      one_fed next (has_flop parts bits t i) (Made (cell_gate parts bits layout next t i))
      (cell_gate_at parts bits extras bonded layout next (omega arith) (λ n. let lt = low n in omega arith) t i)
  store_fed (InputStore pad) next le = one_fed next (has_input_register parts bits pad) (input_feed parts bits bonded pad) (input_fed next pad)
  store_fed (OutputStore pad) next le = tt

  pub stores_fed : (list : List Store) (next : ℕ) → first ≤ next → AreFed (length bonded) (length (stores parts)) next (feeds_from parts bits bonded layout next list)
  stores_fed [] next le = tt
  stores_fed (s ∷ list) next le =
      fed_append (length bonded) (length (stores parts)) (store_feeds parts bits bonded layout next s) (feeds_from parts bits bonded layout (next_slot parts bits bonded layout next s) list) next
      (store_fed s next le) (stores_fed list (next_slot parts bits bonded layout next s) (omega arith))

  pub outputs_fed : (pads : List Pad) (next : ℕ) → AreFed (length bonded) (length (stores parts)) next (map (output_feed parts bits) pads)
  outputs_fed [] next = tt
  outputs_fed (pad ∷ pads) next = (of (has_output_register parts bits pad), outputs_fed pads (suc next))
    where
      of : (b : Bool) → IsFed (length bonded) (length (stores parts)) next (cond b (pad_register parts pad 1) Nothing)
      of true = register_fits (length bonded) (length (stores parts)) next (register_place parts pad) 1
      of false = tt

  io_within : (slots own : ℕ) → first ≤ slots → own < slots → (pad : Pad) → IsTapWithin slots (io_tap parts bits layout own pad)
  io_within slots own le lt pad = by (pin_type parts bits pad / 4 == 5) (pin_type parts bits pad / 4 == 6) (pin_type parts bits pad / 4 == 10)
    where
      level : pin_slot 0 parts layout pad.tile (pad_output_name pad.pio) < slots
      level = let below = pin_low 0 pad.tile (pad_output_name pad.pio) (omega arith) in omega arith

      enable : pin_slot 0 parts layout pad.tile (output_enable_name pad.pio) < slots
      enable = let below = pin_low 0 pad.tile (output_enable_name pad.pio) (omega arith) in omega arith

      by : (kept always enabled : Bool)
          → IsTapWithin slots (cond kept (record { level = own; enable = 1 })
          (cond always (record { level = pin_slot 0 parts layout pad.tile (pad_output_name pad.pio); enable = 1 })
          (cond enabled (record { level = pin_slot 0 parts layout pad.tile (pad_output_name pad.pio); enable = pin_slot 0 parts layout pad.tile (output_enable_name pad.pio) })
          (record { level = 0; enable = 0 }))))
      by true always enabled = record { level_within = lt; enable_within = omega arith }
      by false true enabled = record { level_within = level; enable_within = omega arith }
      by false false true = record { level_within = level; enable_within = enable }
      by false false false = record { level_within = omega arith; enable_within = omega arith }

  ram_within : (slots : ℕ) → first ≤ slots → (t : TileAt) (n : ℕ) → IsTapWithin slots (ram_tap parts layout t n)
  ram_within slots le t n = record { level_within = level; enable_within = by (n == 72) (n == 73) }
    where
      level : pin_slot 0 parts layout t (ram_name n) < slots
      level = let below = pin_low 0 t (ram_name n) (omega arith) in omega arith

      of_pin : (name : List ℕ) → pin_slot 1 parts layout t name < slots
      of_pin name = let below = pin_low 1 t name (omega arith) in omega arith

      by : (reads writes : Bool) → cond reads (pin_slot 1 parts layout t (ram_name 74)) (cond writes (pin_slot 1 parts layout t (ram_name 75)) 1) < slots
      by true writes = of_pin (ram_name 74)
      by false true = of_pin (ram_name 75)
      by false false = omega arith

  tap_within : (slots own : ℕ) → first ≤ slots → own < slots → (pad : Pad) → IsTapWithin slots (pad_tap parts bits layout own pad)
  tap_within slots own le lt pad = by (nat_lt pad.pio 2) (nat_lt pad.pio 78)
    where
      by : (io ram : Bool) → IsTapWithin slots (cond io (io_tap parts bits layout own pad) (cond ram (ram_tap parts layout pad.tile (pad.pio - 2)) no_tap))
      by true ram = io_within slots own le lt pad
      by false true = ram_within slots le pad.tile (pad.pio - 2)
      by false false = record { level_within = omega arith; enable_within = omega arith }

  pub taps_within : (slots : ℕ) → first ≤ slots → (pads : List Pad) (own : ℕ) → own + length pads ≤ slots → All (IsTapWithin slots) (taps_from parts bits layout own pads)
  taps_within slots le [] own few = All-nil (IsTapWithin slots)
  taps_within slots le (pad ∷ pads) own few =
      All-cons (IsTapWithin slots) (pad_tap parts bits layout own pad) (taps_from parts bits layout (suc own) pads) (tap_within slots own le (omega arith) pad)
      (taps_within slots le pads (suc own) (omega arith))

  -- ---- keepers
  keeper_within : (count slots c datum : ℕ) (t : TileAt) (i : ℕ) → first ≤ slots → c < count → datum < slots → IsKeeperWithin count slots (keeper_of parts bits layout c datum (t, i))
  keeper_within count slots c datum t i le lt below = record {
    cell_within = lt;
    slots_within = record {
      clock_within = let at = pin_low 0 t (codes "lutff_global/clk") (omega arith) in omega arith;
      datum_within = below;
      enable_within = let at = pin_low 1 t (codes "lutff_global/cen") (omega arith) in omega arith;
      set_within = let at = pin_low 0 t (codes "lutff_global/s_r") (omega arith) in omega arith;
    };
  }

  register_within : (count slots c datum : ℕ) (t : TileAt) (clock_name : List ℕ) → first ≤ slots → c < count → datum < slots → IsKeeperWithin count slots (register_of parts layout c datum t clock_name)
  register_within count slots c datum t clock_name le lt below = record {
    cell_within = lt;
    slots_within = record {
      clock_within = let at = pin_low 0 t clock_name (omega arith) in omega arith;
      datum_within = below;
      enable_within = let at = pin_low 1 t in_out_enable_name (omega arith) in omega arith;
      set_within = omega arith;
    };
  }

  one_within : (count slots : ℕ) (b : Bool) (keeper : Keeper) → (b ≡ true → IsKeeperWithin count slots keeper) → All (IsKeeperWithin count slots) (cond b (keeper ∷ []) [])
  one_within count slots true keeper within = All-cons (IsKeeperWithin count slots) keeper [] (within refl) (All-nil (IsKeeperWithin count slots))
  one_within count slots false keeper within = All-nil (IsKeeperWithin count slots)

  -- the slot of a store that is used is there
  own_within : (slots next : ℕ) (b : Bool) (feed : Feed) → next + length (cond b (feed ∷ []) []) ≤ slots → b ≡ true → next < slots
  own_within slots next true feed room e = omega arith
  own_within slots next false feed room e = cc e

  store_within : (count slots : ℕ) → first ≤ slots → (s : Store) (c next : ℕ) → c < count → next + length (store_feeds parts bits bonded layout next s) ≤ slots
      → All (IsKeeperWithin count slots) (store_keepers parts bits layout c next s)
  store_within count slots le (CellStore t i) c next lt room =
      one_within count slots (has_flop parts bits t i) (keeper_of parts bits layout c next (t, i))
      (λ e. keeper_within count slots c next t i le lt (own_within slots next (has_flop parts bits t i) (Made (cell_gate parts bits layout next t i)) room e))
  store_within count slots le (InputStore pad) c next lt room =
      one_within count slots (has_input_register parts bits pad) (register_of parts layout c next pad.tile input_clock_name)
      (λ e. register_within count slots c next pad.tile input_clock_name le lt (own_within slots next (has_input_register parts bits pad) (input_feed parts bits bonded pad) room e))
  store_within count slots le (OutputStore pad) c next lt room =
      one_within count slots (has_output_register parts bits pad) (register_of parts layout c (pin_slot 0 parts layout pad.tile (pad_output_name pad.pio)) pad.tile output_clock_name)
      (λ e. register_within count slots c (pin_slot 0 parts layout pad.tile (pad_output_name pad.pio)) pad.tile output_clock_name le lt
      (let below = pin_low 0 pad.tile (pad_output_name pad.pio) (omega arith) in omega arith))

  pub keepers_within : (count slots : ℕ) → first ≤ slots → (list : List Store) (c next : ℕ) → c + length list ≤ count
      → next + length (feeds_from parts bits bonded layout next list) ≤ slots → All (IsKeeperWithin count slots) (keepers_from parts bits bonded layout c next list)
  keepers_within count slots le [] c next few room = All-nil (IsKeeperWithin count slots)
  keepers_within count slots le (s ∷ list) c next few room =
      let own : List Feed = store_feeds parts bits bonded layout next s in
      let n : ℕ = next_slot parts bits bonded layout next s in
      let long = length-append (store_feeds parts bits bonded layout next s) (feeds_from parts bits bonded layout (next_slot parts bits bonded layout next s) list) in
      All-append (IsKeeperWithin count slots) (store_keepers parts bits layout c next s) (keepers_from parts bits bonded layout (suc c) n list)
      (store_within count slots le s c next (omega arith) (omega arith))
      (keepers_within count slots le list (suc c) n (omega arith) (omega arith))
