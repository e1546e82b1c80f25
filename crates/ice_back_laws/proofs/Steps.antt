-- The netlist of a circuit shows, step by step, what the circuit shows.
use Rattle.std.proofs.Common.{◌≡◌, ℕ, suc, ◌+◌, ◌*◌, ◌/◌, ◌<◌, ◌==◌, Bool, true, false, Option, None, Some, List, [], ◌∷◌, length, map, zip, refl, sym, ap, ◌∙◌, subst, arith, eq-eqb, eqb-true, if◌then◌else◌}
use Rattle.std.specs.Prelude.{◌&&◌, codes, is_some, option_map, slice_index_or}
use Rattle.std.specs.Option.{option_map_or}
use Rattle.std.specs.List.{range_with_len}
use Rattle.std.proofs.lemmas.Bool.{and_parts}
use Rattle.std.proofs.lemmas.Option.{get_or_from_slice_get}
use Rattle.ice_base.specs.declared.number.TileAt.{TileAt}
use Rattle.ice_base.specs.declared.number.SignalNo.{SignalNo}
use Rattle.ice_base_values.specs.System.{reading}
use Rattle.ice_base_values.specs.Simulations.{Simulates}
use Rattle.ice_base_values.specs.Order.{At, Has}
use Rattle.ice_base_values.proofs.Machines.{shows_always_alike}
use Rattle.ice_base_values.proofs.Members.{At_map, At_within, Has_all}
use Rattle.ice_base_values.proofs.ListPlaces.{zip_at}
use Rattle.ice_chip.specs.Database.{Parts, PackageRows}
use Rattle.ice_chip.specs.IsRead.{IsRead}
use Rattle.ice_chip.specs.Lookups.{placed_at}
use Rattle.ice_chip.specs.Names.{pad_output_name, output_enable_name, input_clock_name, output_clock_name, in_out_enable_name}
use Rattle.ice_chip.specs.Within.{IsPackage}
use Rattle.ice_chip.specs.declared.rows.Pad.{Pad}
use Rattle.ice_chip_laws.specs.Laws.{LookupsAreLawful}
use Rattle.ice_chip_laws.specs.Names.{HasNames}
use Rattle.ice_bits.specs.Configuration.{Bits}
use Rattle.ice_bits.specs.Settings.{set_at}
use Rattle.ice_net.specs.declared.cell.Cell.{Cell}
use Rattle.ice_net.specs.declared.driver.Drive.TheVariants.{Off}
use Rattle.ice_net.specs.declared.kind.Reset.TheVariants as reset
use Rattle.ice_net.specs.Drives.{level_drive, pad_drive, buffer_drive, drive_by, port_drive}
use Rattle.ice_net.specs.Kinds.{is_edge, fired}
use Rattle.ice_net.specs.Meaning as net
use Rattle.ice_net.specs.Meaning.{State, signal_value, kept_by, clock_by}
use Rattle.ice_net.specs.NetlistData.{NetlistData}
use Rattle.ice_decode.specs.declared.point.Point.{Point}
use Rattle.ice_decode.specs.Cells.{tile_place, cells, reset_of}
use Rattle.ice_decode.specs.Meaning as chip
use Rattle.ice_decode.proofs.PadDrives.{low_drive}
use Rattle.ice_decode.specs.Meaning.{point_level, table_level, clock_level, flop_after, register_after, store_after, clock_after, drive_at}
use Rattle.ice_decode.specs.Pads.{io_tiles, is_enabled, level_of, pad_gives, pin_type, pin_level, part_drive, Store, CellStore, InputStore, OutputStore, stores, input_kept, output_kept, has_input_register, has_output_register}
use Rattle.ice_decode.specs.Reads.{at_pin, cell_inputs}
use Rattle.ice_decode.specs.Refusals.{IsFaultless}
use Rattle.ice_decode.proofs.KeptLevels.{kept_stepped, clock_stepped, cell_stands, cell_kept, input_stands, output_stands, register_kept}
use Rattle.ice_back_laws.specs.Back.{signal_at, pin_reader, buffer_part, buffer_type, driven_reader, pad_port}
use Rattle.ice_back_laws.specs.Law.{root_level, has_level, AreQuiet, NetlistShowsWhatBitsShow}
use Rattle.ice_back_laws.specs.Numbers.{given_number, kept_number, root_number, reader_of}
use Rattle.ice_back_laws.specs.Roots.{LevelRoot, Fixed, Input, Taken, Given, Kept, Level, Table, Register, Sum, is_reading_name, is_heard, is_registered, no_pad, pad_number, pad_at, table_root}
use Rattle.ice_back_laws.proofs.Inputs.{output_reads, enable_reads, pin_used, below_some, inputs_there}
use Rattle.ice_back_laws.proofs.Levels.{IsKeptRoot, chip_keeps, signal_level, root_reads, point_reads}
use Rattle.ice_back_laws.proofs.PadNumbers.{level_at_number}
use Rattle.ice_back_laws.proofs.PinTypes.{pio_below, output_placed}
use Rattle.ice_back_laws.proofs.Ranks.{StandsAt, IsGood, table_good}
use Rattle.ice_back_laws.proofs.RootLevels.{table_level_is}
use Rattle.ice_back_laws.proofs.Standing.{netlist, cell_of, buffered, pad_stands}

-- ---- lists
-- numbers and what they number give the same
numbered_alike : {X Z : Type 0} (f : ℕ → Z) (h : X → Z) (a : ℕ) (xs : List X) → ((k : ℕ) (x : X) → At xs k x → f (a + k) ≡ h x) → map f (range_with_len a (length xs)) ≡ map h xs
numbered_alike f h a [] same = refl
numbered_alike f h a (x ∷ xs) same =
    let z : a + 0 ≡ a = omega arith in
    let one : f a ≡ h x = subst (λ n. f n ≡ h x) z (same 0 x refl) in
    let rest = numbered_alike f h (a + 1) xs (λ k y at. let e : a + suc k ≡ a + 1 + k = omega arith in subst (λ n. f n ≡ h y) e (same (suc k) y at)) in
    λ i. one i ∷ rest i

map_twice : {X Y Z : Type 0} (f : Y → Z) (h : X → Y) (xs : List X) → map f (map h xs) ≡ map (λ x. f (h x)) xs
map_twice f h [] = refl
map_twice f h (x ∷ xs) = ap (λ ys. f (h x) ∷ ys) (map_twice f h xs)

-- ---- drives
same_test : (a b c d : ℕ) → (a ≡ b → c ≡ d) → (c ≡ d → a ≡ b) → (a == b) ≡ (c == d)
same_test a b c d there back = of (a == b) (c == d) refl refl
  where
    of : (x y : Bool) → (a == b) ≡ x → (c == d) ≡ y → x ≡ y
    of true true e f = refl
    of false false e f = refl
    of true false e f = let hit : (c == d) ≡ true = eq-eqb c d (there (eqb-true a b e)) in cc (hit, f)
    of false true e f = let hit : (a == b) ≡ true = eq-eqb a b (back (eqb-true c d f)) in cc (hit, e)

-- an SB_IO with a plain output part drives what the pad drives
plain_alike : (part : ℕ) (level enable : Bool) → pad_drive (4 * part + 1) level enable ≡ (if part == 6 then level_drive level else (if part == 10 then (if enable then level_drive level else Off) else Off))
plain_alike part level enable =
    let one : (4 * part + 1 == 25) ≡ (part == 6) = same_test (4 * part + 1) 25 part 6 (λ e. omega (arith, e)) (λ e. omega (arith, e)) in
    let two : (4 * part + 1 == 41) ≡ (part == 10) = same_test (4 * part + 1) 41 part 10 (λ e. omega (arith, e)) (λ e. omega (arith, e)) in
    λ i. if one i then level_drive level else (if two i then (if enable then level_drive level else Off) else Off)

-- and the SB_IO of a pad, given what the pad's register keeps where it is driven with that, drives what the pad drives
drives_alike : (part : ℕ) (level enable kept : Bool) → pad_drive (4 * buffer_part part + 1) (if part == 5 then kept else level) enable ≡ part_drive part level enable kept
drives_alike part level enable kept = by (part == 5)
  where
    by : (b : Bool) → pad_drive (4 * (if b then 6 else part) + 1) (if b then kept else level) enable
        ≡ (if b then level_drive kept else (if part == 6 then level_drive level else (if part == 10 then (if enable then level_drive level else Off) else Off)))
    by true = refl
    by false = plain_alike part level enable

-- a register without a datum that keeps 0 goes on keeping it
still : (edge enable : Bool) → fired reset.Nothing edge enable false false false ≡ false
still true true = refl
still true false = refl
still false true = refl
still false false = refl

module _ (parts : Parts) (bits : Bits) (extras : List (ℕ × ℕ × ℕ)) (read : IsRead parts) (names : HasNames parts) (faultless : IsFaultless parts bits extras) (package_rows : PackageRows)
    (has : Has parts.packages package_rows) where
  abbrev n : NetlistData
  n = netlist parts bits extras package_rows

  abbrev pads : List Pad
  pads = package_rows.pads

  pio : (k : ℕ) → k < length pads → (pad_at pads k).pio < 2
  pio k lt =
      pio_below parts.width parts.height package_rows (Has_all (IsPackage parts.width parts.height) parts.packages package_rows read.package_forms has) (pad_at pads k) (k, pad_stands pads k lt)

  registered_has : (k : ℕ) → is_registered parts bits (pad_at pads k) ≡ true → has_input_register parts bits (pad_at pads k) ≡ true
  registered_has k e = (and_parts (has_input_register parts bits (pad_at pads k)) (is_heard parts bits (pad_at pads k)) e).0

  abbrev IsKept : LevelRoot → Type 0
  IsKept r = IsKeptRoot parts bits extras read names faultless package_rows r

  -- the store of the chip that keeps the level of a root
  abbrev store_of : LevelRoot → Store
  store_of (Fixed level) = CellStore (record { x = 0; y = 0 }) 0
  store_of (Input k) = InputStore (pad_at pads k)
  store_of (Taken k) = InputStore (pad_at pads k)
  store_of (Given k) = InputStore (pad_at pads k)
  store_of (Kept k) = OutputStore (pad_at pads k)
  store_of (Level k) = InputStore (pad_at pads k)
  store_of (Table t i) = CellStore t i
  store_of (Register t i) = CellStore t i
  store_of (Sum t i) = CellStore t i

  -- where it stands, and how what stands there is told
  record IsStored (r : LevelRoot) : Type 0 where
    pub place : ℕ
    pub stands : At (stores parts) place (store_of r)
    pub told : (kept : List Bool) (x : Bool) → At kept place x → chip_keeps parts bits extras read names faultless package_rows kept r ≡ x

  stored : (r : LevelRoot) → IsKept r → IsStored r
  stored (Fixed level) is = absurd is
  stored (Input k) is = absurd is
  stored (Taken k) is = record {
    place = length (cells parts) + (4 * is.1.place + 2 * (pad_at pads k).pio);
    stands = input_stands parts (pad_at pads k) is.1.place is.1.found is.1.pio;
    told = λ kept x at. register_kept parts (pad_at pads k) is.1.place is.1.found kept 0 x
        (let e : length (cells parts) + (4 * is.1.place + 2 * (pad_at pads k).pio) ≡ length (cells parts) + (4 * is.1.place + 2 * (pad_at pads k).pio) + 0 = omega arith in
        subst (λ m. At kept m x) e at);
  }
  stored (Given k) is = absurd is
  stored (Kept k) is =
      let placed = output_placed parts bits read (pad_at pads k) (pio k is.0) is.1 in
      record {
        place = length (cells parts) + (4 * placed.0 + 2 * (pad_at pads k).pio) + 1;
        stands = output_stands parts (pad_at pads k) placed.0 placed.1 (pio k is.0);
        told = λ kept x at. register_kept parts (pad_at pads k) placed.0 placed.1 kept 1 x at;
      }
  stored (Level k) is = absurd is
  stored (Table t i) is = absurd is
  stored (Register t i) ((k, e, lt), flop) = record {
    place = 8 * k + i;
    stands = cell_stands parts t i k e lt;
    told = λ kept x at. cell_kept parts kept t i k x e at;
  }
  stored (Sum t i) is = absurd is

  -- each register keeps the same on both sides, and has seen the same level of its clock; and one that takes nothing keeps 0
  record Alike (s t : State) : Type 0 where
    pub kept : (j : ℕ) (r : LevelRoot) (is : IsKept r) → At n.cells j (cell_of parts bits extras package_rows r) → (x : Bool) × At s.kept j x × At t.kept (stored r is).place x
    pub clocks : (j : ℕ) (r : LevelRoot) (is : IsKept r) → At n.cells j (cell_of parts bits extras package_rows r) → (x : Option Bool) × At s.clocks j x × At t.clocks (stored r is).place x
    pub quiet : (pad : Pad) → pad.pio < 2 → has_level parts bits pads pad ≡ false → (k : ℕ) → tile_place pad.tile (io_tiles parts) ≡ Some k
        → At t.kept (length (cells parts) + (4 * k + 2 * pad.pio)) false × ((c : Option Bool) × At t.clocks (length (cells parts) + (4 * k + 2 * pad.pio)) c)

  are_quiet : (s t : State) → Alike s t → AreQuiet parts bits pads t.kept
  are_quiet s t alike = record { quiet = λ pad lt none. by pad lt none (tile_place pad.tile (io_tiles parts)) refl; pads = pio }
    where
      by : (pad : Pad) → pad.pio < 2 → has_level parts bits pads pad ≡ false → (o : Option ℕ) → tile_place pad.tile (io_tiles parts) ≡ o → input_kept parts t.kept pad ≡ false
      by pad lt none None e =
          ap (λ (o : Option ℕ). option_map_or (λ m. slice_index_or t.kept (m + 0) false) (option_map (λ k. length (cells parts) + (4 * k + 2 * pad.pio)) o) false) e
      by pad lt none (Some k) e =
          let f : length (cells parts) + (4 * k + 2 * pad.pio) ≡ length (cells parts) + (4 * k + 2 * pad.pio) + 0 = omega arith in
          register_kept parts pad k e t.kept 0 false (subst (λ m. At t.kept m false) f (alike.quiet pad lt none k e).0)

  same_kept : (s t : State) → Alike s t → (j : ℕ) (r : LevelRoot) → IsKept r → At n.cells j (cell_of parts bits extras package_rows r)
      → slice_index_or s.kept j false ≡ chip_keeps parts bits extras read names faultless package_rows t.kept r
  same_kept s t alike j r is at =
      let both = alike.kept j r is at in
      get_or_from_slice_get s.kept j both.0 false both.1 ∙ sym ((stored r is).told t.kept both.0 both.2)

  -- ---- one step
  module _ (levels : List Bool) (s t : State) (alike : Alike s t) where
    abbrev own : Point → Bool
    own = point_level parts bits extras pads levels t.kept

    abbrev now : ℕ → Bool
    now = signal_value n levels s.kept

    pin_now : (bare : Bool) (u : TileAt) (name : List ℕ) → is_reading_name (placed_at u name) ≡ true
        → reading bare (λ (x : SignalNo). now x.0) (pin_reader parts bits extras pads bare u name) ≡ pin_level bare parts own u name
    pin_now bare u name reads =
        point_reads parts bits extras read names faultless package_rows levels t.kept s.kept (are_quiet s t alike) (same_kept s t alike) bare (at_pin parts u name)
        (λ p e. pin_used parts read bits names u name reads p e)

    root_now : (m : ℕ) (r : LevelRoot) → IsGood parts bits extras read names faultless pads m r → now (root_number parts pads r) ≡ root_level parts bits pads own levels t.kept r
    root_now m r is = signal_level parts bits extras read names faultless package_rows levels t.kept s.kept (are_quiet s t alike) (same_kept s t alike) m r is

    table_now : (u : TileAt) (i : ℕ) → StandsAt parts u i → reading false (λ (x : SignalNo). now x.0) (reader_of parts pads false (table_root parts bits u i)) ≡ table_level parts bits own u i
    table_now u i place =
        let below = below_some parts read bits names extras faultless pads (cell_inputs parts u i) (inputs_there parts read bits names u i place.2) in
        root_reads parts bits extras read names faultless package_rows levels t.kept s.kept (are_quiet s t alike) (same_kept s t alike) false below.0 (table_root parts bits u i)
        (table_good parts bits extras read names faultless pads below.0 u i place below.1)
        ∙ sym (table_level_is parts bits pads own levels t.kept u i)

    output_now : (k : ℕ) → k < length pads → reading false (λ (x : SignalNo). now x.0) (pin_reader parts bits extras pads false (pad_at pads k).tile (pad_output_name (pad_at pads k).pio))
        ≡ pin_level false parts own (pad_at pads k).tile (pad_output_name (pad_at pads k).pio)
    output_now k lt = pin_now false (pad_at pads k).tile (pad_output_name (pad_at pads k).pio) (output_reads (pad_at pads k).tile (pad_at pads k).pio (pio k lt))

    -- what a flip-flop or a register keeps after the step, where it is used
    abbrev after : LevelRoot → Bool → Option Bool → Bool
    after r kept clock = store_after parts bits pads levels own (store_of r) kept clock

    flop_now : (r : LevelRoot) → IsKept r → (kept : Bool) (clock : Option Bool)
        → kept_by now (cell_of parts bits extras package_rows r).kind (cell_of parts bits extras package_rows r).ins kept clock ≡ after r kept clock
    flop_now (Fixed level) is kept clock = absurd is
    flop_now (Input k) is kept clock = absurd is
    flop_now (Taken k) is kept clock =
        let clocked = pin_now false (pad_at pads k).tile input_clock_name refl in
        let enabled = pin_now true (pad_at pads k).tile in_out_enable_name refl in
        let gives : pad_gives parts bits pads levels (pad_at pads k) ≡ slice_index_or levels k false
        = ap (λ b. b && level_of pads levels (pad_at pads k)) is.1.enabled ∙ level_at_number pads levels (pad_at pads k) (Some k) is.1.number in
        let datum : now (given_number k) ≡ pad_gives parts bits pads levels (pad_at pads k) = root_now 0 (Given k) ((is.0.0, is.0.1), tt) ∙ sym gives in
        (λ j. fired reset.Nothing (is_edge false clock (clocked j)) (enabled j) false (datum j) kept)
        ∙ ap (λ b. b && register_after parts own (pad_at pads k).tile input_clock_name (pad_gives parts bits pads levels (pad_at pads k)) kept clock) (sym (registered_has k is.0.1))
    flop_now (Given k) is kept clock = absurd is
    flop_now (Kept k) is kept clock =
        let clocked = pin_now false (pad_at pads k).tile output_clock_name refl in
        let enabled = pin_now true (pad_at pads k).tile in_out_enable_name refl in
        let datum = output_now k is.0 in
        (λ j. fired reset.Nothing (is_edge false clock (clocked j)) (enabled j) false (datum j) kept)
        ∙ ap (λ b. b && register_after parts own (pad_at pads k).tile output_clock_name (pin_level false parts own (pad_at pads k).tile (pad_output_name (pad_at pads k).pio)) kept clock) (sym is.1)
    flop_now (Level k) is kept clock = absurd is
    flop_now (Table u i) is kept clock = absurd is
    flop_now (Register u i) is kept clock =
        let clocked = pin_now false u (codes "lutff_global/clk") refl in
        let enabled = pin_now true u (codes "lutff_global/cen") refl in
        let set = pin_now false u (codes "lutff_global/s_r") refl in
        let datum = table_now u i is.0 in
        (λ j. fired (reset_of parts bits u i) (is_edge (set_at parts bits u (codes "NegClk") 0) clock (clocked j)) (enabled j) (set j) (datum j) kept)
        ∙ ap (λ b. b && flop_after parts bits own u i kept clock) (sym is.1)
    flop_now (Sum u i) is kept clock = absurd is

    clock_now : (r : LevelRoot) → IsKept r → clock_by now (cell_of parts bits extras package_rows r).kind (cell_of parts bits extras package_rows r).ins ≡ clock_after parts bits own (store_of r)
    clock_now (Fixed level) is = absurd is
    clock_now (Input k) is = absurd is
    clock_now (Taken k) is =
        ap (λ (x : Bool). Some x) (pin_now false (pad_at pads k).tile input_clock_name refl)
        ∙ sym (ap (λ b. if b then Some (pin_level false parts own (pad_at pads k).tile input_clock_name) else None) (registered_has k is.0.1))
    clock_now (Given k) is = absurd is
    clock_now (Kept k) is =
        ap (λ (x : Bool). Some x) (pin_now false (pad_at pads k).tile output_clock_name refl)
        ∙ sym (ap (λ b. if b then Some (pin_level false parts own (pad_at pads k).tile output_clock_name) else None) is.1)
    clock_now (Level k) is = absurd is
    clock_now (Table u i) is = absurd is
    clock_now (Register u i) is =
        ap (λ (x : Bool). Some x) (pin_now false u (codes "lutff_global/clk") refl)
        ∙ sym (ap (λ b. if b then Some (clock_level parts own u) else None) is.1)
    clock_now (Sum u i) is = absurd is

    abbrev next : State
    next = chip.state_after parts bits pads levels own t

    kept_then : (j : ℕ) (r : LevelRoot) (is : IsKept r) → At n.cells j (cell_of parts bits extras package_rows r) → (x : Bool) × At (net.kept_after now n.cells s) j x × At next.kept (stored r is).place x
    kept_then j r is at =
        let a = alike.kept j r is at in
        let b = alike.clocks j r is at in
        let c : Cell = cell_of parts bits extras package_rows r in
        let one = At_map (λ (x : Cell × (Bool × Option Bool)). kept_by now x.0.kind x.0.ins x.1.0 x.1.1) (zip n.cells (zip s.kept s.clocks)) j (c, (a.0, b.0))
        (zip_at n.cells (zip s.kept s.clocks) j c (a.0, b.0) at (zip_at s.kept s.clocks j a.0 b.0 a.1 b.1)) in
        let two = kept_stepped parts bits pads levels own t (stored r is).place (store_of r) (stored r is).stands a.0 b.0 a.2 b.2 in
        (kept_by now c.kind c.ins a.0 b.0, one, two ∙ ap (λ (x : Bool). Some x) (sym (flop_now r is a.0 b.0)))

    clocks_then : (j : ℕ) (r : LevelRoot) (is : IsKept r) → At n.cells j (cell_of parts bits extras package_rows r) → (x : Option Bool) × At (net.clocks_after now n.cells) j x × At next.clocks (stored r is).place x
    clocks_then j r is at = (
      clock_by now (cell_of parts bits extras package_rows r).kind (cell_of parts bits extras package_rows r).ins,
      At_map (λ (c : Cell). clock_by now c.kind c.ins) n.cells j (cell_of parts bits extras package_rows r) at,
      clock_stepped parts bits pads levels own t (stored r is).place (store_of r) (stored r is).stands ∙ ap (λ (x : Option Bool). Some x) (sym (clock_now r is)),
    )

    -- a pad without a level gives nothing
    gives_none : (pad : Pad) → has_level parts bits pads pad ≡ false → pad_gives parts bits pads levels pad ≡ false
    gives_none pad none = by (is_enabled parts bits pad) (pad_number pad pads) refl none
      where
        by : (b : Bool) (o : Option ℕ) → pad_number pad pads ≡ o → (b && is_some o) ≡ false → (b && level_of pads levels pad) ≡ false
        by false o e f = refl
        by true None e f = level_at_number pads levels pad None e
        by true (Some k) e f = cc f

    quiet_then : (pad : Pad) → pad.pio < 2 → has_level parts bits pads pad ≡ false → (k : ℕ) → tile_place pad.tile (io_tiles parts) ≡ Some k
        → At next.kept (length (cells parts) + (4 * k + 2 * pad.pio)) false × ((c : Option Bool) × At next.clocks (length (cells parts) + (4 * k + 2 * pad.pio)) c)
    quiet_then pad lt none k e =
        let place : ℕ = length (cells parts) + (4 * k + 2 * pad.pio) in
        let old = alike.quiet pad lt none k e in
        let stands = input_stands parts pad k e lt in
        let two = kept_stepped parts bits pads levels own t place (InputStore pad) stands false old.1.0 old.0 old.1.1 in (
          two ∙ ap (λ (x : Bool). Some x) (keeps (has_input_register parts bits pad) old.1.0),
          (clock_after parts bits own (InputStore pad), clock_stepped parts bits pads levels own t place (InputStore pad) stands),
        )
      where
        keeps : (b : Bool) (c : Option Bool) → (b && register_after parts own pad.tile input_clock_name (pad_gives parts bits pads levels pad) false c) ≡ false
        keeps false c = refl
        keeps true c =
            ap (λ d. register_after parts own pad.tile input_clock_name d false c) (gives_none pad none)
            ∙ still (is_edge false c (pin_level false parts own pad.tile input_clock_name)) (pin_level true parts own pad.tile in_out_enable_name)

    -- what the SB_IO of a pad is given to drive
    given_now : (k : ℕ) → k < length pads → reading false (λ (x : SignalNo). now x.0) (driven_reader parts bits extras pads (k, pad_at pads k))
        ≡ (if has_output_register parts bits (pad_at pads k) then output_kept parts t.kept (pad_at pads k) else pin_level false parts own (pad_at pads k).tile (pad_output_name (pad_at pads k).pio))
    given_now k lt = by (has_output_register parts bits (pad_at pads k)) refl
      where
        by : (b : Bool) → has_output_register parts bits (pad_at pads k) ≡ b
            → reading false (λ (x : SignalNo). now x.0) (if b then signal_at (kept_number k) else pin_reader parts bits extras pads false (pad_at pads k).tile (pad_output_name (pad_at pads k).pio))
            ≡ (if b then output_kept parts t.kept (pad_at pads k) else pin_level false parts own (pad_at pads k).tile (pad_output_name (pad_at pads k).pio))
        by true e = root_now 0 (Kept k) ((lt, e), tt)
        by false e = output_now k lt

    drive_now : (k : ℕ) (pad : Pad) → At pads k pad → port_drive n.cells now (pad_port k) ≡ drive_at parts bits t.kept own pad
    drive_now k pad at =
        let lt = At_within pads k pad at in
        let found = buffered parts bits extras package_rows k lt in
        let given = given_now k lt in
        let enable = pin_now false (pad_at pads k).tile (output_enable_name (pad_at pads k).pio) (enable_reads (pad_at pads k).tile (pad_at pads k).pio (pio k lt)) in
        ap (drive_by n.cells now (pad_port k)) found.1
        ∙ ap (buffer_drive now) found.2
        ∙ (λ j. pad_drive (buffer_type parts bits (pad_at pads k)) (given j) (enable j))
        ∙ drives_alike (pin_type parts bits (pad_at pads k) / 4) _ _ (output_kept parts t.kept (pad_at pads k))
        ∙ sym (low_drive parts bits t.kept own (pad_at pads k) (pio k lt))
        ∙ ap (drive_at parts bits t.kept own) (get_or_from_slice_get pads k pad no_pad at)

    drives_now : map (port_drive n.cells now) n.ports ≡ map (drive_at parts bits t.kept own) pads
    drives_now =
        map_twice (port_drive n.cells now) pad_port (range_with_len 0 (length pads))
        ∙ numbered_alike (λ k. port_drive n.cells now (pad_port k)) (drive_at parts bits t.kept own) 0 pads
        (λ k pad at. let e : k ≡ 0 + k = omega arith in subst (λ m. port_drive n.cells now (pad_port m) ≡ drive_at parts bits t.kept own pad) e (drive_now k pad at))

  -- ---- all steps
  alike_start : Alike (net.start n) (chip.chip_start parts)
  alike_start = record {
    kept = λ j r is at. (false, At_map (λ (c : Cell). false) n.cells j _ at, At_map (λ (x : Store). false) (stores parts) (stored r is).place _ (stored r is).stands);
    clocks = λ j r is at. (None, At_map (λ (c : Cell). None) n.cells j _ at, At_map (λ (x : Store). None) (stores parts) (stored r is).place _ (stored r is).stands);
    quiet = λ pad lt none k e. (
      At_map (λ (x : Store). false) (stores parts) (length (cells parts) + (4 * k + 2 * pad.pio)) _ (input_stands parts pad k e lt),
      (None, At_map (λ (x : Store). None) (stores parts) (length (cells parts) + (4 * k + 2 * pad.pio)) _ (input_stands parts pad k e lt)),
    );
  }

  simulates : Simulates (net.step n) (chip.chip_step parts bits extras pads pads) Alike (λ levels. Unit {0})
  simulates s t levels allowed alike = (record { kept = kept_then levels s t alike; clocks = clocks_then levels s t alike; quiet = quiet_then levels s t alike }, drives_now levels s t alike)

  pub shows_same : (steps : List (List Bool)) → net.shows n steps ≡ chip.bits_show parts bits extras pads pads steps
  shows_same steps = shows_always_alike (net.step n) (chip.chip_step parts bits extras pads pads) Alike simulates (net.start n) (chip.chip_start parts) alike_start steps

pub netlist_shows : LookupsAreLawful → NetlistShowsWhatBitsShow
netlist_shows lawful parts bits extras package_rows chip faultless has levels = shows_same parts bits extras chip.read (lawful parts chip).names faultless package_rows has levels
