-- Every input of the netlist of a circuit that is in use is driven, and every port has its SB_IO.
use Rattle.std.proofs.Common.{◌≡◌, ℕ, zero, suc, ◌+◌, ◌<◌, ◌==◌, length, not, Bool, true, false, Option, None, Some, List, [], ◌∷◌, map, refl, sym, ap, ◌∙◌, subst, arith}
use Rattle.std.specs.Prelude.{◌&&◌, ◌||◌, codes, slice_get, option_map, if◌then◌else◌}
use Rattle.std.specs.List.{flat_map, range_with_len}
use Rattle.std.specs.Option.{option_map_or}
use Rattle.std.proofs.lemmas.Option.{same_Some, none-some}
use Rattle.ice_base.specs.declared.number.TileAt.{TileAt}
use Rattle.ice_base.specs.declared.number.SignalNo.{SignalNo}
use Rattle.ice_base_values.specs.Order.{At, Has}
use Rattle.ice_base_values.proofs.Members.{At_map, Has_all}
use Rattle.ice_chip.specs.Database.{Parts, PackageRows}
use Rattle.ice_chip.specs.IsRead.{IsRead}
use Rattle.ice_chip.specs.Lookups.{placed_at}
use Rattle.ice_chip.specs.Names.{pad_output_name, output_enable_name, input_clock_name, output_clock_name, in_out_enable_name}
use Rattle.ice_chip.specs.Within.{IsPackage}
use Rattle.ice_chip.specs.declared.rows.Pad.{Pad}
use Rattle.ice_chip_laws.specs.Laws.{LookupsAreLawful}
use Rattle.ice_chip_laws.specs.Names.{HasNames}
use Rattle.ice_bits.specs.Configuration.{Bits}
use Rattle.ice_net.specs.declared.cell.Cell.{Cell}
use Rattle.ice_net.specs.declared.port.Port.{Port}
use Rattle.ice_net.specs.Drives.{output_type, enabled_type}
use Rattle.ice_net.specs.Drivers.{place_of, pin_of, driver_of, is_there}
use Rattle.ice_net.specs.NetlistData.{NetlistData, port_at}
use Rattle.ice_net.specs.Ways.{way_at}
use Rattle.ice_decode.specs.declared.point.Point.{Point}
use Rattle.ice_decode.specs.Reads.{at_pin, cell_inputs, carry_inputs}
use Rattle.ice_decode.specs.Refusals.{IsFaultless}
use Rattle.ice_decode.specs.Pads.{has_output_register}
use Rattle.ice_decode.proofs.Members.{At_map_cases, At_range}
use Rattle.ice_check.specs.Faults.{first_number, uses_of, is_used, shown_of, is_shown, is_nothing, is_undriven, undriven, port_is, is_bare, inout_bare, cell_is, is_portless, is_no_way, pin_not_port}
use Rattle.ice_back_laws.specs.Law.{IsConnected, NetlistIsConnected}
use Rattle.ice_back_laws.specs.Back.{reader, pin_reader, buffer_type, driven_reader, register_cell, signal_at, pad_port}
use Rattle.ice_back_laws.specs.Numbers.{port_number, input_number, given_number, kept_number, root_number, reader_of, signal}
use Rattle.ice_back_laws.specs.Roots.{LevelRoot, Fixed, Input, Taken, Given, Kept, Level, Table, Register, Sum, is_reading_name, pad_at, table_root, root_of}
use Rattle.ice_back_laws.proofs.Ranks.{IsThere, StandsAt, table_good}
use Rattle.ice_back_laws.proofs.Inputs.{output_reads, enable_reads, IsUsed, pin_used, input_used, inputs_there, carry_input_used, below_some, point_good}
use Rattle.ice_back_laws.proofs.Loopless.{place_has}
use Rattle.ice_back_laws.proofs.PinTypes.{pio_below}
use Rattle.ice_back_laws.proofs.Standing.{netlist, cell_of, cell_made, root_driven, port_made, port_place, port_driven, buffered, flat_back, place_none, pad_stands}

pub first_none : (test : ℕ → Bool) (k more : ℕ) → ((s : ℕ) → s < k + more → test s ≡ false) → first_number test k more ≡ None
first_none test k zero none = refl
first_none test k (suc more) none = ap (λ b. if b then Some k else first_number test (k + 1) more) (none k (omega arith)) ∙ first_none test (k + 1) more (λ s lt. none s (omega (arith, lt)))

module _ (parts : Parts) (bits : Bits) (extras : List (ℕ × ℕ × ℕ)) (read : IsRead parts) (names : HasNames parts) (faultless : IsFaultless parts bits extras) (package_rows : PackageRows)
    (has : Has parts.packages package_rows) where
  abbrev n : NetlistData
  n = netlist parts bits extras package_rows

  abbrev pads : List Pad
  pads = package_rows.pads

  -- the output of some cell or the pad of some port drives the signal
  abbrev IsDriven : ℕ → Type 0
  IsDriven s = is_nothing (driver_of n s) ≡ false

  root_drives : (q : LevelRoot) → IsThere parts bits extras pads q → (s : ℕ) → Some (signal (root_number parts pads q)) ≡ Some (signal s) → IsDriven s
  root_drives q there s e =
      let same : root_number parts pads q ≡ s = ap (λ (x : SignalNo). x.0) (same_Some (signal (root_number parts pads q)) (signal s) e) in
      let driven = root_driven parts bits extras package_rows q there in
      ap (λ k. is_nothing (driver_of n k)) (sym same) ∙ ap is_nothing driven.1

  reader_driven : (bare : Bool) (q : LevelRoot) → IsThere parts bits extras pads q → (s : ℕ) → reader_of parts pads bare q ≡ Some (signal s) → IsDriven s
  reader_driven true (Fixed true) there s e = absurd (none-some (signal s) e)
  reader_driven true (Fixed false) there s e = root_drives (Fixed false) there s e
  reader_driven false (Fixed true) there s e = root_drives (Fixed true) there s e
  reader_driven false (Fixed false) there s e = absurd (none-some (signal s) e)
  reader_driven true (Input k) there s e = root_drives (Input k) there s e
  reader_driven true (Taken k) there s e = root_drives (Taken k) there s e
  reader_driven true (Given k) there s e = root_drives (Given k) there s e
  reader_driven true (Kept k) there s e = root_drives (Kept k) there s e
  reader_driven true (Level k) there s e = root_drives (Level k) there s e
  reader_driven true (Table t i) there s e = root_drives (Table t i) there s e
  reader_driven true (Register t i) there s e = root_drives (Register t i) there s e
  reader_driven true (Sum t i) there s e = root_drives (Sum t i) there s e
  reader_driven false (Input k) there s e = root_drives (Input k) there s e
  reader_driven false (Taken k) there s e = root_drives (Taken k) there s e
  reader_driven false (Given k) there s e = root_drives (Given k) there s e
  reader_driven false (Kept k) there s e = root_drives (Kept k) there s e
  reader_driven false (Level k) there s e = root_drives (Level k) there s e
  reader_driven false (Table t i) there s e = root_drives (Table t i) there s e
  reader_driven false (Register t i) there s e = root_drives (Register t i) there s e
  reader_driven false (Sum t i) there s e = root_drives (Sum t i) there s e

  point_driven : (bare : Bool) (o : Option Point) → ((p : Point) → o ≡ Some p → IsUsed parts read bits names p) → (s : ℕ) → reader parts bits extras pads bare o ≡ Some (signal s) → IsDriven s
  point_driven bare None used s e = absurd (none-some (signal s) e)
  point_driven bare (Some p) used s e =
      reader_driven bare (root_of parts bits extras pads p) (point_good parts read bits names extras faultless pads p (used p refl)) s e

  pin_driven : (bare : Bool) (t : TileAt) (name : List ℕ) → is_reading_name (placed_at t name) ≡ true → (s : ℕ) → pin_reader parts bits extras pads bare t name ≡ Some (signal s) → IsDriven s
  pin_driven bare t name reads s e = point_driven bare (at_pin parts t name) (λ p f. pin_used parts read bits names t name reads p f) s e

  all_driven : (ps : List (Option Point)) → ((j : ℕ) (p : Point) → At ps j (Some p) → IsUsed parts read bits names p) → (s : ℕ) → Has (map (reader parts bits extras pads false) ps) (Some (signal s)) → IsDriven s
  all_driven ps used s there =
      let found = At_map_cases (reader parts bits extras pads false) ps there.0 (Some (signal s)) there.1 in
      point_driven false found.0 (λ p e. used there.0 p (found.1 ∙ ap (λ (o : Option Point). Some o) e)) s found.2

  flop_driven : (t : TileAt) (i : ℕ) → StandsAt parts t i → (s j : ℕ) → At (uses_of (cell_of parts bits extras package_rows (Register t i))) j (Some (signal s)) → IsDriven s
  flop_driven t i place s zero at = pin_driven false t (codes "lutff_global/clk") refl s (same_Some _ (Some (signal s)) at)
  flop_driven t i place s (suc zero) at =
      let below = below_some parts read bits names extras faultless pads (cell_inputs parts t i) (inputs_there parts read bits names t i place.2) in
      reader_driven false (table_root parts bits t i) (table_good parts bits extras read names faultless pads below.0 t i place below.1).0 s (same_Some _ (Some (signal s)) at)
  flop_driven t i place s (suc (suc zero)) at = pin_driven true t (codes "lutff_global/cen") refl s (same_Some _ (Some (signal s)) at)
  flop_driven t i place s (suc (suc (suc zero))) at = pin_driven false t (codes "lutff_global/s_r") refl s (same_Some _ (Some (signal s)) at)
  flop_driven t i place s (suc (suc (suc (suc j)))) at = absurd (none-some (Some (signal s)) at)

  -- ---- pads
  pio : (k : ℕ) → k < length pads → (pad_at pads k).pio < 2
  pio k lt =
      pio_below parts.width parts.height package_rows (Has_all (IsPackage parts.width parts.height) parts.packages package_rows read.package_forms has) (pad_at pads k) (k, pad_stands pads k lt)

  -- a register of a pad: its clock, its datum and its enable
  register_driven : (t : TileAt) (clock_name : List ℕ) (datum : Option SignalNo) (output : ℕ) → is_reading_name (placed_at t clock_name) ≡ true → ((s : ℕ) → datum ≡ Some (signal s) → IsDriven s)
      → (s j : ℕ) → At (uses_of (register_cell parts bits extras pads t clock_name datum output)) j (Some (signal s)) → IsDriven s
  register_driven t clock_name datum output reads given s zero at = pin_driven false t clock_name reads s (same_Some _ (Some (signal s)) at)
  register_driven t clock_name datum output reads given s (suc zero) at = given s (same_Some _ (Some (signal s)) at)
  register_driven t clock_name datum output reads given s (suc (suc zero)) at = pin_driven true t in_out_enable_name refl s (same_Some _ (Some (signal s)) at)
  register_driven t clock_name datum output reads given s (suc (suc (suc j))) at = absurd (none-some (Some (signal s)) at)

  output_driven : (k : ℕ) → k < length pads → (s : ℕ) → pin_reader parts bits extras pads false (pad_at pads k).tile (pad_output_name (pad_at pads k).pio) ≡ Some (signal s) → IsDriven s
  output_driven k lt s e = pin_driven false (pad_at pads k).tile (pad_output_name (pad_at pads k).pio) (output_reads (pad_at pads k).tile (pad_at pads k).pio (pio k lt)) s e

  -- what the pad is driven with
  given_driven : (k : ℕ) → k < length pads → (b : Bool) → has_output_register parts bits (pad_at pads k) ≡ b → (s : ℕ)
      → (if b then signal_at (kept_number k) else pin_reader parts bits extras pads false (pad_at pads k).tile (pad_output_name (pad_at pads k).pio)) ≡ Some (signal s) → IsDriven s
  given_driven k lt true f s e = root_drives (Kept k) (lt, f) s e
  given_driven k lt false f s e = output_driven k lt s e

  buffer_driven : (k : ℕ) → k < length pads → (s : ℕ) (b c : Bool)
      → Has (if b then driven_reader parts bits extras pads (k, pad_at pads k) ∷ []
      else (if c then driven_reader parts bits extras pads (k, pad_at pads k) ∷ pin_reader parts bits extras pads false (pad_at pads k).tile (output_enable_name (pad_at pads k).pio) ∷ [] else [])) (Some (signal s)) → IsDriven s
  buffer_driven k lt s true c (zero, at) = given_driven k lt (has_output_register parts bits (pad_at pads k)) refl s (same_Some _ (Some (signal s)) at)
  buffer_driven k lt s true c (suc j, at) = absurd (none-some (Some (signal s)) at)
  buffer_driven k lt s false true (zero, at) = given_driven k lt (has_output_register parts bits (pad_at pads k)) refl s (same_Some _ (Some (signal s)) at)
  buffer_driven k lt s false true (suc zero, at) =
      pin_driven false (pad_at pads k).tile (output_enable_name (pad_at pads k).pio) (enable_reads (pad_at pads k).tile (pad_at pads k).pio (pio k lt)) s (same_Some _ (Some (signal s)) at)
  buffer_driven k lt s false true (suc (suc j), at) = absurd (none-some (Some (signal s)) at)
  buffer_driven k lt s false false there = absurd (none-some (Some (signal s)) there.1)

  -- an SB_GB reads a port
  port_read : (k : ℕ) → k < length pads → (s j : ℕ) → At (signal_at (port_number k) ∷ []) j (Some (signal s)) → IsDriven s
  port_read k lt s zero at =
      let same : port_number k ≡ s = ap (λ (x : SignalNo). x.0) (same_Some (signal (port_number k)) (signal s) (same_Some _ (Some (signal s)) at)) in
      ap (λ q. is_nothing (driver_of n q)) (sym same) ∙ ap is_nothing (port_driven parts bits extras package_rows k lt)
  port_read k lt s (suc j) at = absurd (none-some (Some (signal s)) at)

  use_driven : (r : LevelRoot) → IsThere parts bits extras pads r → (s : ℕ) → Has (uses_of (cell_of parts bits extras package_rows r)) (Some (signal s)) → IsDriven s
  use_driven (Fixed true) there s uses = absurd (none-some (Some (signal s)) uses.1)
  use_driven (Fixed false) there s uses = absurd (none-some (Some (signal s)) uses.1)
  use_driven (Input k) there s uses =
      buffer_driven k there.0 s (buffer_type parts bits (pad_at pads k) == output_type) (buffer_type parts bits (pad_at pads k) == enabled_type) uses
  use_driven (Taken k) there s uses =
      register_driven (pad_at pads k).tile input_clock_name (signal_at (given_number k)) (input_number k) refl (λ q e. root_drives (Given k) there q e) s uses.0 uses.1
  use_driven (Given k) there s uses =
      buffer_driven k there.0 s (buffer_type parts bits (pad_at pads k) == output_type) (buffer_type parts bits (pad_at pads k) == enabled_type) uses
  use_driven (Kept k) there s uses =
      register_driven (pad_at pads k).tile output_clock_name (pin_reader parts bits extras pads false (pad_at pads k).tile (pad_output_name (pad_at pads k).pio)) (kept_number k) refl
      (λ q e. output_driven k there.0 q e) s uses.0 uses.1
  use_driven (Level k) there s uses = port_read k there.0 s uses.0 uses.1
  use_driven (Table t i) there s uses = all_driven (cell_inputs parts t i) (λ j p at. input_used parts read bits names t i p there.0.2 j at) s uses
  use_driven (Register t i) there s uses = flop_driven t i there.0 s uses.0 uses.1
  use_driven (Sum t i) there s uses = all_driven (carry_inputs parts t i) (λ j p at. carry_input_used parts read bits names t i p there.0 j at) s uses

  -- ---- signals
  never_both : (b : Bool) → (b && (false || false)) ≡ false
  never_both true = refl
  never_both false = refl

  not_shown : (s : ℕ) → is_shown n s ≡ false
  not_shown s = ap is_there (place_none (shown_of n.cells) s n.ports (λ p has e. let is = port_made parts bits extras package_rows p has in none-some (signal s) (ap (shown_of n.cells) (sym is.2) ∙ e)))

  not_undriven : (s : ℕ) → is_undriven n s ≡ false
  not_undriven s = by (place_of s (flat_map uses_of n.cells)) refl
    where
      by : (o : Option ℕ) → place_of s (flat_map uses_of n.cells) ≡ o → is_undriven n s ≡ false
      by None e = (λ j. is_nothing (driver_of n s) && (is_there (e j) || not_shown s j)) ∙ never_both (is_nothing (driver_of n s))
      by (Some i) e =
          let found = flat_back uses_of n.cells (Some (signal s)) (place_has s (flat_map uses_of n.cells) i e) in
          let made = cell_made parts bits extras package_rows found.0 found.1 in
          let driven = use_driven made.0 made.1 s (subst (λ c. Has (uses_of c) (Some (signal s))) made.2 found.2) in
          ap (λ b. b && (is_used n s || is_shown n s)) driven

  pub all_used_driven : undriven n ≡ None
  all_used_driven = first_none (is_undriven n) 0 (length n.names) (λ s lt. not_undriven s)

  -- ---- pads
  port_stands : (k : ℕ) → k < length pads → At n.ports k (pad_port k)
  port_stands k lt = let e : 0 + k ≡ k = omega arith in At_map pad_port (range_with_len 0 (length pads)) k k (subst (λ m. At (range_with_len 0 (length pads)) k m) e (At_range 0 (length pads) k lt))

  buffer_ported : (k : ℕ) → k < length pads → is_no_way (way_at n.ports (port_at (port_number k) n.ports)) ≡ false
  buffer_ported k lt =
      ap (λ o. is_no_way (way_at n.ports o)) (port_place parts bits extras package_rows k lt) ∙ ap (λ (o : Option Port). is_no_way (option_map (λ (p : Port). p.way) o)) (port_stands k lt)

  root_ported : (r : LevelRoot) → IsThere parts bits extras pads r → is_portless n.ports (cell_of parts bits extras package_rows r).kind (pin_of (cell_of parts bits extras package_rows r)) ≡ false
  root_ported (Fixed true) there = refl
  root_ported (Fixed false) there = refl
  root_ported (Input k) there = buffer_ported k there.0
  root_ported (Taken k) there = refl
  root_ported (Given k) there = buffer_ported k there.0
  root_ported (Kept k) there = refl
  root_ported (Level k) there = refl
  root_ported (Table t i) there = refl
  root_ported (Register t i) there = refl
  root_ported (Sum t i) there = refl

  pub pins_ported : pin_not_port n ≡ None
  pins_ported = first_none (cell_is n (λ (c : Cell). is_portless n.ports c.kind (pin_of c))) 0 (length n.cells) (λ i lt. by i (slice_get n.cells i) refl)
    where
      by : (i : ℕ) (o : Option Cell) → slice_get n.cells i ≡ o → option_map_or (λ (c : Cell). is_portless n.ports c.kind (pin_of c)) (slice_get n.cells i) false ≡ false
      by i None e = ap (λ (o : Option Cell). option_map_or (λ (c : Cell). is_portless n.ports c.kind (pin_of c)) o false) e
      by i (Some c) e =
          let made = cell_made parts bits extras package_rows c (i, e) in
          ap (λ (o : Option Cell). option_map_or (λ (c : Cell). is_portless n.ports c.kind (pin_of c)) o false) (e ∙ ap (λ (d : Cell). Some d) made.2) ∙ root_ported made.0 made.1

  pub ports_buffered : inout_bare n ≡ None
  ports_buffered = first_none (port_is n (is_bare n.cells)) 0 (length n.ports) (λ k lt. by k (slice_get n.ports k) refl)
    where
      by : (k : ℕ) (o : Option Port) → slice_get n.ports k ≡ o → option_map_or (is_bare n.cells) (slice_get n.ports k) false ≡ false
      by k None e = ap (λ (o : Option Port). option_map_or (is_bare n.cells) o false) e
      by k (Some p) e =
          let is = port_made parts bits extras package_rows p (k, e) in
          ap (λ (o : Option Port). option_map_or (is_bare n.cells) o false) (e ∙ ap (λ (q : Port). Some q) is.2)
          ∙ ap (λ (o : Option ℕ). not (is_there o)) (buffered parts bits extras package_rows is.0 is.1).1

pub connected : (parts : Parts) (bits : Bits) (extras : List (ℕ × ℕ × ℕ)) (package_rows : PackageRows) → IsRead parts → HasNames parts → IsFaultless parts bits extras → Has parts.packages package_rows
    → IsConnected (netlist parts bits extras package_rows)
connected parts bits extras package_rows read names faultless has = record {
  driven = all_used_driven parts bits extras read names faultless package_rows has;
  pins_at_ports = pins_ported parts bits extras read names faultless package_rows has;
  inouts_buffered = ports_buffered parts bits extras read names faultless package_rows has;
}

pub is_connected : LookupsAreLawful → NetlistIsConnected
is_connected lawful parts bits extras package_rows chip faultless has = connected parts bits extras package_rows chip.read (lawful parts chip).names faultless has
