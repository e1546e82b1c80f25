-- A netlist whose covers pass clocks on behind the buffers goes through the same steps.
use Rattle.std.proofs.Common.{◌≡◌, ◌⊎◌, ℕ, suc, ◌+◌, ◌<◌, ◌≤◌, Bool, false, Option, None, Some, List, [], ◌∷◌, length, map, inl, inr, refl, ap, sym, ◌∙◌, subst, arith}
use Rattle.std.specs.Prelude.{option_map, slice_get, slice_index_or, unwrap_or}
use Rattle.std.specs.List.{range_with_len, zip}
use Rattle.std.proofs.Math.Path.{fun_ext}
use Rattle.std.proofs.lemmas.Bool.{cases_lt}
use Rattle.std.proofs.lemmas.List.FromFn.{length-range_with_len}
use Rattle.ice_base.specs.Lists.{all_known}
use Rattle.ice_base.specs.declared.number.SignalNo.{SignalNo}
use Rattle.ice_base_values.specs.Order.{At, Has}
use Rattle.ice_base_values.specs.Simulations.{try_reading}
use Rattle.ice_base_values.specs.System.{System, value, machine_shows}
use Rattle.ice_base_values.proofs.Gaps.{value_gapped}
use Rattle.ice_base_values.proofs.ListPlaces.{has_number}
use Rattle.ice_base_values.proofs.Members.{At_within}
use Rattle.ice_net.specs.declared.cell.Cell.{Cell}
use Rattle.ice_net.specs.declared.driver.Drive.{Drive}
use Rattle.ice_net.specs.declared.driver.SignalDriver.TheVariants.{Nothing}
use Rattle.ice_net.specs.declared.kind.CellKind.{CellKind}
use Rattle.ice_net.specs.declared.kind.CellKind.TheVariants.{Lut, Cover, Carry, Flop, PadCell, Global}
use Rattle.ice_net.specs.declared.port.Port.{Port}
use Rattle.ice_net.specs.NetlistData.{NetlistData}
use Rattle.ice_net.specs.Drivers.{buffer_at, driver_of}
use Rattle.ice_net.specs.Drives.{kind_drive, buffer_drive, drive_by, port_drive}
use Rattle.ice_net.specs.Meaning.{State, kept_by, clock_by, kept_after, clocks_after, depends_on, reads, makes, system_of, signal_value, step, start, shows}
use Rattle.ice_check_promote.specs.Promoted.{passing_ins}
use Rattle.ice_check_promote.proofs.Behind.{IsBehind, tied_at, values_same}
use Rattle.ice_check_promote.proofs.Clocks.{in_range}
use Rattle.ice_check_promote.proofs.Passing.{IsBuffered, turn, map_turned, at_turned, new, buffer_same, driver_same, tied, read_behind}

-- a signal that nothing drives is 0
silent_value : (n : NetlistData) (levels kept : List Bool) (f s : ℕ) → driver_of n s ≡ Nothing → value (system_of n levels kept) (suc f) s ≡ Some false
silent_value n levels kept f s none =
    value_gapped (λ q. reads n (driver_of n q)) false (λ q. makes n levels kept (driver_of n q)) f s
    ∙ ap (λ d. option_map (makes n levels kept d) (all_known (map (try_reading false (λ q. value (system_of n levels kept) f q)) (reads n d)))) none

one_more : (k : ℕ) → suc k ≡ k + 1
one_more k = omega arith

module _ (next : ℕ) (clocks : List ℕ) (outer : List SignalNo) (m : NetlistData) (b : IsBuffered next clocks m) where
  abbrev total : ℕ
  total = length m.names

  abbrev after : NetlistData
  after = new next clocks outer m

  -- ---- values
  depends_within : (p q : ℕ) → p < total → Has (depends_on after p) q → q < total
  depends_within p q lt has =
      let found = tied_at (IsBehind next clocks) (reads after (driver_of after p)) (reads m (driver_of m p)) (tied next clocks outer m p) has.0 q has.1 in
      by found.0 (b.low p found.0 lt found.1) found.2
    where
      by : (y : ℕ) → y < next → IsBehind next clocks q y → q < total
      by y low (inl same) = let many = b.many in omega (arith, low, same, many)
      by y low (inr (j, at, is)) = let many = b.many in let there = At_within clocks j y at in omega (arith, is, many, there)

  closed : (levels kept : List Bool) (p q : ℕ) → Has (range_with_len 0 total) p → Has (depends_on after p) q → Has (range_with_len 0 total) q ⊎ ((system_of after levels kept).depends q ≡ [])
  closed levels kept p q has reads =
      let lt : p < 0 + total = in_range 0 total has.0 p has.1 in
      inl (has_number total q (depends_within p q (omega (arith, lt)) reads))

  value_same : (levels kept : List Bool) (s : ℕ) → value (system_of after levels kept) (total + 1) s ≡ value (system_of m levels kept) (total + 1) s
  value_same levels kept s = by (cases_lt s total)
    where
      nothing : (n : NetlistData) → driver_of n s ≡ Nothing → value (system_of n levels kept) (total + 1) s ≡ Some false
      nothing n none = subst (λ k. value (system_of n levels kept) k s ≡ Some false) (one_more total) (silent_value n levels kept total s none)

      by : (s < total) ⊎ (total ≤ s) → value (system_of after levels kept) (total + 1) s ≡ value (system_of m levels kept) (total + 1) s
      by (inl lt) =
          subst (λ k. value (system_of after levels kept) (k + 1) s ≡ value (system_of m levels kept) (k + 1) s) (length-range_with_len 0 total)
          (values_same false next clocks (λ q. reads m (driver_of m q)) (λ q. reads after (driver_of after q)) (λ q. makes m levels kept (driver_of m q)) (λ q. makes after levels kept (driver_of after q))
          (read_behind next clocks outer m b levels kept) (range_with_len 0 total) (closed levels kept) s (has_number total s lt))
      by (inr le) = nothing after (driver_same next clocks outer m s ∙ b.silent s le) ∙ sym (nothing m (b.silent s le))

  values_are : (levels kept : List Bool) → signal_value after levels kept ≡ signal_value m levels kept
  values_are levels kept = fun_ext (λ s. ap (λ (o : Option Bool). unwrap_or o false) (value_same levels kept s))

  -- ---- what cells keep, and what ports drive
  kept_same : (v : ℕ → Bool) (kind : CellKind) (outs ins : List (Option SignalNo)) (kept : Bool) (clock : Option Bool)
      → kept_by v kind (passing_ins next clocks outer kind outs ins) kept clock ≡ kept_by v kind ins kept clock
  kept_same v (Lut table) outs ins kept clock = refl
  kept_same v (Cover table width) outs ins kept clock = refl
  kept_same v Carry outs ins kept clock = refl
  kept_same v (Flop falling enable reset) outs ins kept clock = refl
  kept_same v (PadCell pin_type pullup) outs ins kept clock = refl
  kept_same v Global outs ins kept clock = refl

  clock_same : (v : ℕ → Bool) (kind : CellKind) (outs ins : List (Option SignalNo)) → clock_by v kind (passing_ins next clocks outer kind outs ins) ≡ clock_by v kind ins
  clock_same v (Lut table) outs ins = refl
  clock_same v (Cover table width) outs ins = refl
  clock_same v Carry outs ins = refl
  clock_same v (Flop falling enable reset) outs ins = refl
  clock_same v (PadCell pin_type pullup) outs ins = refl
  clock_same v Global outs ins = refl

  drive_same : (v : ℕ → Bool) (kind : CellKind) (outs ins : List (Option SignalNo)) → kind_drive v kind (passing_ins next clocks outer kind outs ins) ≡ kind_drive v kind ins
  drive_same v (Lut table) outs ins = refl
  drive_same v (Cover table width) outs ins = refl
  drive_same v Carry outs ins = refl
  drive_same v (Flop falling enable reset) outs ins = refl
  drive_same v (PadCell pin_type pullup) outs ins = refl
  drive_same v Global outs ins = refl

  all_kept : (v : ℕ → Bool) (cells : List Cell) (kept : List (Bool × Option Bool))
      → map (λ (x : Cell × (Bool × Option Bool)). kept_by v x.0.kind x.0.ins x.1.0 x.1.1) (zip (map (turn next clocks outer) cells) kept)
      ≡ map (λ (x : Cell × (Bool × Option Bool)). kept_by v x.0.kind x.0.ins x.1.0 x.1.1) (zip cells kept)
  all_kept v [] kept = refl
  all_kept v (cell ∷ cells) [] = refl
  all_kept v (cell ∷ cells) (k ∷ kept) =
      ap (λ x. x ∷ map (λ (x : Cell × (Bool × Option Bool)). kept_by v x.0.kind x.0.ins x.1.0 x.1.1) (zip (map (turn next clocks outer) cells) kept)) (kept_same v cell.kind cell.outs cell.ins k.0 k.1)
      ∙ ap (λ xs. kept_by v cell.kind cell.ins k.0 k.1 ∷ xs) (all_kept v cells kept)

  port_same : (v : ℕ → Bool) (port : Port) → port_drive after.cells v port ≡ port_drive m.cells v port
  port_same v port = ap (drive_by after.cells v port) (buffer_same next clocks outer m port.signal.0) ∙ by (buffer_at m.cells port.signal.0)
    where
      of_cell : (o : Option Cell) → buffer_drive v (option_map (turn next clocks outer) o) ≡ buffer_drive v o
      of_cell None = refl
      of_cell (Some cell) = drive_same v cell.kind cell.outs cell.ins

      by : (o : Option ℕ) → drive_by after.cells v port o ≡ drive_by m.cells v port o
      by None = refl
      by (Some i) = ap (buffer_drive v) (at_turned next clocks outer m.cells i) ∙ of_cell (slice_get m.cells i)

  -- ---- steps
  abbrev stepped : NetlistData → State → (ℕ → Bool) → State × List Drive
  stepped n state v = (record { kept = kept_after v n.cells state; clocks = clocks_after v n.cells }, map (port_drive n.cells v) n.ports)

  stepped_same : (state : State) (v : ℕ → Bool) → stepped after state v ≡ stepped m state v
  stepped_same state v =
      ap (λ (kept : List Bool). (record { kept = kept; clocks = clocks_after v after.cells }, map (port_drive after.cells v) m.ports)) (all_kept v m.cells (zip state.kept state.clocks))
      ∙ ap (λ (clocked : List (Option Bool)). (record { kept = kept_after v m.cells state; clocks = clocked }, map (port_drive after.cells v) m.ports))
      (map_turned next clocks outer (λ (cell : Cell). clock_by v cell.kind cell.ins) (λ cell. clock_same v cell.kind cell.outs cell.ins) m.cells)
      ∙ ap (λ (drives : Port → Drive). (record { kept = kept_after v m.cells state; clocks = clocks_after v m.cells }, map drives m.ports)) (fun_ext (port_same v))

  step_same : step after ≡ step m
  step_same = fun_ext (λ (state : State). fun_ext (λ (levels : List Bool). ap (stepped after state) (values_are levels state.kept) ∙ stepped_same state (signal_value m levels state.kept)))

  start_same : start after ≡ start m
  start_same =
      ap (λ (kept : List Bool). record { kept = kept; clocks = map (λ (cell : Cell). None) after.cells }) (map_turned next clocks outer (λ (cell : Cell). false) (λ cell. refl) m.cells)
      ∙ ap (λ (clocked : List (Option Bool)). record { kept = map (λ (cell : Cell). false) m.cells; clocks = clocked }) (map_turned next clocks outer (λ (cell : Cell). None) (λ cell. refl) m.cells)

  pub passing_shows_same : (levels : List (List Bool)) → shows after levels ≡ shows m levels
  passing_shows_same levels =
      ap (λ (f : State → List Bool → State × List Drive). machine_shows f (start after) levels) step_same ∙ ap (λ (s : State). machine_shows (step m) s levels) start_same
