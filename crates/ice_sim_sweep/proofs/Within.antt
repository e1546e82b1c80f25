-- The parts of a plan stay within the ports, the cells and the slots.
use Rattle.std.proofs.Common.{◌≡◌, ℕ, suc, ◌+◌, ◌<◌, Bool, true, false, cond, List, [], ◌∷◌, length, map, get_or, Option, Some, None, All, refl, ap, sym, ◌∙◌, subst, arith}
use Rattle.std.specs.Prelude.{◌==◌, slice_get, slice_index_or, option_map}
use Rattle.std.specs.List.{flat_map}
use Rattle.std.proofs.lemmas.List.{length-map}
use Rattle.std.proofs.lemmas.List.Elements.{All-append, All-nil, All-cons}
use Rattle.std.proofs.lemmas.Option.{slice_get_within, same_Some}
use Rattle.ice_base.specs.declared.number.SignalNo.{SignalNo}
use Rattle.ice_base_values.specs.Order.{At}
use Rattle.ice_net.specs.declared.cell.Cell.{Cell}
use Rattle.ice_net.specs.declared.kind.CellKind.{CellKind}
use Rattle.ice_net.specs.declared.kind.CellKind.TheVariants.{Lut, Cover, Carry, Flop, PadCell, Global}
use Rattle.ice_net.specs.declared.port.Port.{Port}
use Rattle.ice_net.specs.declared.port.Way.{Way}
use Rattle.ice_net.specs.declared.port.Way.TheVariants.{Input, Output, Both}
use Rattle.ice_net.specs.declared.driver.SignalDriver.{SignalDriver}
use Rattle.ice_net.specs.declared.driver.SignalDriver.TheVariants as driver
use Rattle.ice_net.specs.NetlistData.{NetlistData}
use Rattle.ice_net.specs.Formed.{IsBelow, IsFormed, IsFormedCell, IsPortBelow}
use Rattle.ice_net.specs.Drivers.{is_signal, place_of, pad_of, pad_signals, outputs, driver_from, driver_of, buffer_at}
use Rattle.ice_net.specs.Drives.{output_type, enabled_type}
use Rattle.ice_sim_sweep.specs.declared.parts.Gate.{Gate}
use Rattle.ice_sim_sweep.specs.declared.plan.SweepPlan.{SweepPlan}
use Rattle.ice_sim_sweep.specs.Slots.{slot_of, slot_at, gate_of, enable_slot, set_slot}
use Rattle.ice_sim_sweep.specs.Feeds.{majority_table, first_table, pad_feed, pin_feed, kind_feed, cell_feed, driver_feed, feed_of, port_in, kept_in, linked, gate_in, no_tap, bare_tap, pad_tap, kind_tap, buffer_tap, tap_by, tap_of, keeper_at, keepers_of}
use Rattle.ice_sim_sweep.specs.Plans.{IsPlan, IsLinkWithin, IsGateWithin, IsTapWithin, IsKeeperWithin, ArePartsWithin}
use Rattle.ice_sim_sweep.proofs.Showing.{below_at, cell_at, tail_all}

-- ---- links
links_within : (F : ℕ → Option ℕ) (bound slots : ℕ) → ((s k : ℕ) → F s ≡ Some k → k < bound) → (signals : List ℕ) → ((j s : ℕ) → At signals j s → s < slots)
    → All (IsLinkWithin bound slots) (flat_map (λ s. linked s (F s)) signals)
links_within F bound slots small [] below = All-nil (IsLinkWithin bound slots)
links_within F bound slots small (s ∷ signals) below =
    All-append (IsLinkWithin bound slots) (linked s (F s)) (flat_map (λ s. linked s (F s)) signals) (of (F s) refl)
    (links_within F bound slots small signals (λ j r at. below (suc j) r at))
  where
    of : (o : Option ℕ) → F s ≡ o → All (IsLinkWithin bound slots) (linked s o)
    of None e = All-nil (IsLinkWithin bound slots)
    of (Some k) e = All-cons (IsLinkWithin bound slots) (record { from = k; to = s }) [] (record { from_within = small s k e; to_within = below 0 s refl }) (All-nil (IsLinkWithin bound slots))

place_within : (s : ℕ) (list : List (Option SignalNo)) (k : ℕ) → place_of s list ≡ Some k → k < length list
place_within s [] k e = cc
place_within s (x ∷ list) k e = of (is_signal s x) e (λ m f. place_within s list m f)
  where
    next : (o : Option ℕ) → option_map suc o ≡ Some k → ((m : ℕ) → o ≡ Some m → m < length list) → k < suc (length list)
    next None f rec = cc
    next (Some m) f rec = let same : suc m ≡ k = same_Some _ _ f in let lt = rec m refl in omega arith

    of : (b : Bool) → cond b (Some 0) (option_map suc (place_of s list)) ≡ Some k → ((m : ℕ) → place_of s list ≡ Some m → m < length list) → k < suc (length list)
    of true f rec = let same : 0 ≡ k = same_Some _ _ f in omega arith
    of false f rec = next (place_of s list) f rec

module _ (n : NetlistData) where
  pad_within : (s k : ℕ) → (p o : Option ℕ) → place_of s (pad_signals n) ≡ p → driver_from p o ≡ driver.Pad k → k < length n.ports
  pad_within s k None None e f = cc
  pad_within s k None (Some i) e f = cc
  pad_within s k (Some m) o e f =
      let same : m ≡ k = cc in
      let lt = place_within s (pad_signals n) m e in
      let long : length (pad_signals n) ≡ length n.ports = length-map n.ports (pad_of n.cells) in
      omega arith

  driver_within : (s k : ℕ) → driver_of n s ≡ driver.Pad k → k < length n.ports
  driver_within s k e = pad_within s k (place_of s (pad_signals n)) (place_of s (outputs n)) refl e

  pin_within : (s k : ℕ) (d : SignalDriver) → driver_of n s ≡ d → port_in (pad_feed d) ≡ Some k → k < length n.ports
  pin_within s k driver.Nothing e f = cc
  pin_within s k (driver.Pad m) e f = let same : m ≡ k = same_Some m k f in driver_within s k (e ∙ ap driver.Pad same)
  pin_within s k (driver.Output i) e f = cc

  port_kind : (s i k : ℕ) (kind : CellKind) (ins : List (Option SignalNo)) → port_in (kind_feed n s i kind ins) ≡ Some k → k < length n.ports
  port_kind s i k (Lut table) ins e = cc
  port_kind s i k (Cover table width) ins e = cc
  port_kind s i k Carry ins e = cc
  port_kind s i k (Flop falling enable reset) ins e = cc
  port_kind s i k (PadCell pin_type pullup) ins e = of (slice_index_or ins 0 None) e
    where
      of : (o : Option SignalNo) → port_in (pin_feed n o) ≡ Some k → k < length n.ports
      of None f = cc
      of (Some pin) f = pin_within pin.0 k (driver_of n pin.0) refl f
  port_kind s i k Global ins e = cc

  port_cell : (s i k : ℕ) (o : Option Cell) → port_in (cell_feed n s i o) ≡ Some k → k < length n.ports
  port_cell s i k None e = cc
  port_cell s i k (Some cell) e = port_kind s i k cell.kind cell.ins e

  port_driver : (s k : ℕ) (d : SignalDriver) → driver_of n s ≡ d → port_in (driver_feed n s d) ≡ Some k → k < length n.ports
  port_driver s k driver.Nothing e f = cc
  port_driver s k (driver.Pad m) e f = let same : m ≡ k = same_Some m k f in driver_within s k (e ∙ ap driver.Pad same)
  port_driver s k (driver.Output i) e f = port_cell s i k (slice_get n.cells i) f

  kept_pin : (d : SignalDriver) (k : ℕ) → kept_in (pad_feed d) ≡ Some k → ⊥
  kept_pin driver.Nothing k e = cc
  kept_pin (driver.Pad m) k e = cc
  kept_pin (driver.Output i) k e = cc

  kept_pad : (o : Option SignalNo) (k : ℕ) → kept_in (pin_feed n o) ≡ Some k → ⊥
  kept_pad None k e = cc
  kept_pad (Some pin) k e = kept_pin (driver_of n pin.0) k e

  kept_kind : (s i k : ℕ) (kind : CellKind) (ins : List (Option SignalNo)) → kept_in (kind_feed n s i kind ins) ≡ Some k → i ≡ k
  kept_kind s i k (Lut table) ins e = cc
  kept_kind s i k (Cover table width) ins e = cc
  kept_kind s i k Carry ins e = cc
  kept_kind s i k (Flop falling enable reset) ins e = same_Some i k e
  kept_kind s i k (PadCell pin_type pullup) ins e = absurd (kept_pad (slice_index_or ins 0 None) k e)
  kept_kind s i k Global ins e = cc

  kept_cell : (s i k : ℕ) (o : Option Cell) → slice_get n.cells i ≡ o → kept_in (cell_feed n s i o) ≡ Some k → k < length n.cells
  kept_cell s i k None at e = cc
  kept_cell s i k (Some cell) at e = let same = kept_kind s i k cell.kind cell.ins e in let lt = slice_get_within n.cells i cell at in omega arith

  kept_driver : (s k : ℕ) (d : SignalDriver) → kept_in (driver_feed n s d) ≡ Some k → k < length n.cells
  kept_driver s k driver.Nothing f = cc
  kept_driver s k (driver.Pad m) f = cc
  kept_driver s k (driver.Output i) f = kept_cell s i k (slice_get n.cells i) refl f

-- ---- slots
slot_within : (signals bare : ℕ) (input : Option SignalNo) → bare < signals + 2 → IsBelow signals input → slot_of bare input < signals + 2
slot_within signals bare None lt below = lt
slot_within signals bare (Some signal) lt below = omega arith

slots_within : (signals bare : ℕ) (ins : List (Option SignalNo)) (k : ℕ) → bare < signals + 2 → All (IsBelow signals) ins → slot_at bare ins k < signals + 2
slots_within signals bare ins k lt all = slot_within signals bare (get_or ins k None) lt (below_at signals ins k all)

gate_within : (signals table : ℕ) (ins : List (Option SignalNo)) (s : ℕ) → s < signals → All (IsBelow signals) ins → IsGateWithin (signals + 2) (gate_of signals table ins s)
gate_within signals table ins s lt all = record {
  first_within = slots_within signals signals ins 0 (omega arith) all;
  second_within = slots_within signals signals ins 1 (omega arith) all;
  third_within = slots_within signals signals ins 2 (omega arith) all;
  fourth_within = slots_within signals signals ins 3 (omega arith) all;
  out_within = omega arith;
}

one_gate : (slots : ℕ) (gate : Gate) → IsGateWithin slots gate → All (IsGateWithin slots) (gate ∷ [])
one_gate slots gate within = All-cons (IsGateWithin slots) gate [] within (All-nil (IsGateWithin slots))

no_pin_gate : (slots : ℕ) (d : SignalDriver) → All (IsGateWithin slots) (gate_in (pad_feed d))
no_pin_gate slots driver.Nothing = All-nil (IsGateWithin slots)
no_pin_gate slots (driver.Pad k) = All-nil (IsGateWithin slots)
no_pin_gate slots (driver.Output i) = All-nil (IsGateWithin slots)

no_pad_gate : (n : NetlistData) (slots : ℕ) (o : Option SignalNo) → All (IsGateWithin slots) (gate_in (pin_feed n o))
no_pad_gate n slots None = All-nil (IsGateWithin slots)
no_pad_gate n slots (Some pin) = no_pin_gate slots (driver_of n pin.0)

gate_kind : (n : NetlistData) (s i : ℕ) → s < length n.names → (kind : CellKind) (ins : List (Option SignalNo)) → All (IsBelow (length n.names)) ins
    → All (IsGateWithin (length n.names + 2)) (gate_in (kind_feed n s i kind ins))
gate_kind n s i lt (Lut table) ins all = one_gate (length n.names + 2) (gate_of (length n.names) table ins s) (gate_within (length n.names) table ins s lt all)
gate_kind n s i lt (Cover table width) ins all = one_gate (length n.names + 2) (gate_of (length n.names) table ins s) (gate_within (length n.names) table ins s lt all)
gate_kind n s i lt Carry ins all = one_gate (length n.names + 2) (gate_of (length n.names) majority_table ins s) (gate_within (length n.names) majority_table ins s lt all)
gate_kind n s i lt (Flop falling enable reset) ins all = All-nil (IsGateWithin (length n.names + 2))
gate_kind n s i lt (PadCell pin_type pullup) ins all = no_pad_gate n (length n.names + 2) (slice_index_or ins 0 None)
gate_kind n s i lt Global ins all = one_gate (length n.names + 2) (gate_of (length n.names) first_table ins s) (gate_within (length n.names) first_table ins s lt all)

gate_cell : (n : NetlistData) (s i : ℕ) → s < length n.names → IsFormed n → (o : Option Cell) → slice_get n.cells i ≡ o
    → All (IsGateWithin (length n.names + 2)) (gate_in (cell_feed n s i o))
gate_cell n s i lt formed None at = All-nil (IsGateWithin (length n.names + 2))
gate_cell n s i lt formed (Some cell) at = gate_kind n s i lt cell.kind cell.ins (cell_at (length n.names) n.cells i cell formed.cells at).ins_below

gate_driver : (n : NetlistData) (s : ℕ) → s < length n.names → IsFormed n → (d : SignalDriver) → All (IsGateWithin (length n.names + 2)) (gate_in (driver_feed n s d))
gate_driver n s lt formed driver.Nothing = All-nil (IsGateWithin (length n.names + 2))
gate_driver n s lt formed (driver.Pad k) = All-nil (IsGateWithin (length n.names + 2))
gate_driver n s lt formed (driver.Output i) = gate_cell n s i lt formed (slice_get n.cells i) refl

gates_within : (n : NetlistData) → IsFormed n → (signals : List ℕ) → ((j s : ℕ) → At signals j s → s < length n.names)
    → All (IsGateWithin (length n.names + 2)) (flat_map (λ s. gate_in (feed_of n s)) signals)
gates_within n formed [] below = All-nil (IsGateWithin (length n.names + 2))
gates_within n formed (s ∷ signals) below =
    All-append (IsGateWithin (length n.names + 2)) (gate_in (feed_of n s)) (flat_map (λ s. gate_in (feed_of n s)) signals)
    (gate_driver n s (below 0 s refl) formed (driver_of n s))
    (gates_within n formed signals (λ j r at. below (suc j) r at))

-- ---- taps
no_tap_within : (signals : ℕ) → IsTapWithin (signals + 2) (no_tap signals)
no_tap_within signals = record { level_within = omega arith; enable_within = omega arith }

pad_tap_within : (signals pin_type : ℕ) (ins : List (Option SignalNo)) → All (IsBelow signals) ins → IsTapWithin (signals + 2) (pad_tap signals pin_type ins)
pad_tap_within signals pin_type ins all = by (pin_type == output_type) (pin_type == enabled_type)
  where
    by : (outputs enabled : Bool) → IsTapWithin (signals + 2) (cond outputs (record { level = slot_at signals ins 1; enable = signals + 1 })
        (cond enabled (record { level = slot_at signals ins 1; enable = slot_at signals ins 2 }) (no_tap signals)))
    by true enabled = record { level_within = slots_within signals signals ins 1 (omega arith) all; enable_within = omega arith }
    by false true = record { level_within = slots_within signals signals ins 1 (omega arith) all; enable_within = slots_within signals signals ins 2 (omega arith) all }
    by false false = no_tap_within signals

kind_tap_within : (signals : ℕ) (kind : CellKind) (ins : List (Option SignalNo)) → All (IsBelow signals) ins → IsTapWithin (signals + 2) (kind_tap signals kind ins)
kind_tap_within signals (Lut table) ins all = no_tap_within signals
kind_tap_within signals (Cover table width) ins all = no_tap_within signals
kind_tap_within signals Carry ins all = no_tap_within signals
kind_tap_within signals (Flop falling enable reset) ins all = no_tap_within signals
kind_tap_within signals (PadCell pin_type pullup) ins all = pad_tap_within signals pin_type ins all
kind_tap_within signals Global ins all = no_tap_within signals

bare_tap_within : (signals : ℕ) (way : Way) (s : ℕ) → s < signals → IsTapWithin (signals + 2) (bare_tap signals way s)
bare_tap_within signals Input s lt = no_tap_within signals
bare_tap_within signals Output s lt = record { level_within = omega arith; enable_within = omega arith }
bare_tap_within signals Both s lt = no_tap_within signals

buffer_tap_within : (n : NetlistData) → IsFormed n → (i : ℕ) (o : Option Cell) → slice_get n.cells i ≡ o → IsTapWithin (length n.names + 2) (buffer_tap (length n.names) o)
buffer_tap_within n formed i None at = no_tap_within (length n.names)
buffer_tap_within n formed i (Some cell) at = kind_tap_within (length n.names) cell.kind cell.ins (cell_at (length n.names) n.cells i cell formed.cells at).ins_below

tap_within : (n : NetlistData) → IsFormed n → (port : Port) → port.signal.0 < length n.names → (place : Option ℕ) → IsTapWithin (length n.names + 2) (tap_by n port place)
tap_within n formed port lt None = bare_tap_within (length n.names) port.way port.signal.0 lt
tap_within n formed port lt (Some i) = buffer_tap_within n formed i (slice_get n.cells i) refl

taps_within : (n : NetlistData) → IsFormed n → (ports : List Port) → All (IsPortBelow (length n.names)) ports → All (IsTapWithin (length n.names + 2)) (map (tap_of n) ports)
taps_within n formed [] all = All-nil (IsTapWithin (length n.names + 2))
taps_within n formed (port ∷ ports) all =
    All-cons (IsTapWithin (length n.names + 2)) (tap_of n port) (map (tap_of n) ports) (tap_within n formed port (all 0 port (omega arith)) (buffer_at n.cells port.signal.0))
    (taps_within n formed ports (tail_all (IsPortBelow (length n.names)) port ports all))

-- ---- flip-flops
enable_within : (signals : ℕ) (enable : Bool) (ins : List (Option SignalNo)) → All (IsBelow signals) ins → enable_slot signals enable ins < signals + 2
enable_within signals true ins all = slots_within signals (signals + 1) ins 2 (omega arith) all
enable_within signals false ins all = omega arith

set_within : (signals : ℕ) (enable : Bool) (ins : List (Option SignalNo)) → All (IsBelow signals) ins → set_slot signals enable ins < signals + 2
set_within signals true ins all = slots_within signals signals ins 3 (omega arith) all
set_within signals false ins all = slots_within signals signals ins 2 (omega arith) all

keeper_within : (signals cells i : ℕ) → i < cells → (kind : CellKind) (ins : List (Option SignalNo)) → All (IsBelow signals) ins
    → All (IsKeeperWithin cells (signals + 2)) (keeper_at signals i kind ins)
keeper_within signals cells i lt (Lut table) ins all = All-nil (IsKeeperWithin cells (signals + 2))
keeper_within signals cells i lt (Cover table width) ins all = All-nil (IsKeeperWithin cells (signals + 2))
keeper_within signals cells i lt Carry ins all = All-nil (IsKeeperWithin cells (signals + 2))
keeper_within signals cells i lt (Flop falling enable reset) ins all =
    All-cons (IsKeeperWithin cells (signals + 2)) (record {
      cell = i;
      clock = slot_at signals ins 0;
      datum = slot_at signals ins 1;
      enable = enable_slot signals enable ins;
      set = set_slot signals enable ins;
      falling = falling;
      reset = reset;
    }) [] (record {
      cell_within = lt;
      slots_within = record {
        clock_within = slots_within signals signals ins 0 (omega arith) all;
        datum_within = slots_within signals signals ins 1 (omega arith) all;
        enable_within = enable_within signals enable ins all;
        set_within = set_within signals enable ins all;
      };
    }) (All-nil (IsKeeperWithin cells (signals + 2)))
keeper_within signals cells i lt (PadCell pin_type pullup) ins all = All-nil (IsKeeperWithin cells (signals + 2))
keeper_within signals cells i lt Global ins all = All-nil (IsKeeperWithin cells (signals + 2))

keepers_within : (signals count : ℕ) (cells : List Cell) (i : ℕ) → i + length cells ≡ count → All (IsFormedCell signals) cells
    → All (IsKeeperWithin count (signals + 2)) (keepers_of signals i cells)
keepers_within signals count [] i e all = All-nil (IsKeeperWithin count (signals + 2))
keepers_within signals count (cell ∷ cells) i e all =
    All-append (IsKeeperWithin count (signals + 2)) (keeper_at signals i cell.kind cell.ins) (keepers_of signals (suc i) cells)
    (keeper_within signals count i (omega arith) cell.kind cell.ins (let formed : IsFormedCell signals cell = all 0 cell (omega arith) in formed.ins_below))
    (keepers_within signals count cells (suc i) (omega arith) (tail_all (IsFormedCell signals) cell cells all))

-- ---- the plan
pub parts_within : (n : NetlistData) (plan : SweepPlan) → IsPlan n plan → (ports cells slots : ℕ) → ports ≡ length n.ports → cells ≡ length n.cells → slots ≡ length n.names + 2
    → ArePartsWithin ports cells slots plan
parts_within n plan p ports cells slots same_ports same_cells same_slots =
    let below : (j s : ℕ) → At p.order j s → s < length n.names + 2 = λ j s at. let lt = p.ordered.within j s at in omega arith in
    rw (same_ports, same_cells, same_slots) record {
      pads_within = subst (All (IsLinkWithin (length n.ports) (length n.names + 2))) (sym p.wired.pads_are)
          (links_within (λ s. port_in (feed_of n s)) (length n.ports) (length n.names + 2) (λ s k e. port_driver n s k (driver_of n s) refl e) p.order below);
      keeps_within = subst (All (IsLinkWithin (length n.cells) (length n.names + 2))) (sym p.wired.keeps_are)
          (links_within (λ s. kept_in (feed_of n s)) (length n.cells) (length n.names + 2) (λ s k e. kept_driver n s k (driver_of n s) e) p.order below);
      gates_within = subst (All (IsGateWithin (length n.names + 2))) (sym p.wired.gates_are) (gates_within n p.formed p.order p.ordered.within);
      taps_within = subst (All (IsTapWithin (length n.names + 2))) (sym p.taps_are) (taps_within n p.formed n.ports p.formed.ports);
      keepers_within = subst (All (IsKeeperWithin (length n.cells) (length n.names + 2))) (sym p.keepers_are)
          (keepers_within (length n.names) (length n.cells) n.cells 0 (omega arith) p.formed.cells);
    }
