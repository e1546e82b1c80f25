-- What each signal, port and cell of a netlist is compiled to.
use Rattle.std.specs.Prelude.{ℕ, ◌+◌, ◌==◌, List, [], ◌∷◌, ◌++◌, length, Option, Some, None, if◌then◌else◌, slice_get, slice_index_or}
use Rattle.std.proofs.Common.{suc}
use Rattle.ice_base.specs.declared.number.SignalNo.{SignalNo}
use Rattle.ice_net.specs.declared.cell.Cell.{Cell}
use Rattle.ice_net.specs.declared.driver.SignalDriver.{SignalDriver}
use Rattle.ice_net.specs.declared.driver.SignalDriver.TheVariants as driver
use Rattle.ice_net.specs.declared.kind.CellKind.{CellKind}
use Rattle.ice_net.specs.declared.kind.CellKind.TheVariants.{Lut, Cover, Carry, Flop, PadCell, Global}
use Rattle.ice_net.specs.declared.port.Port.{Port}
use Rattle.ice_net.specs.declared.port.Way.{Way}
use Rattle.ice_net.specs.declared.port.Way.TheVariants.{Input, Output, Both}
use Rattle.ice_net.specs.NetlistData.{NetlistData}
use Rattle.ice_net.specs.Drivers.{driver_of, buffer_at}
use Rattle.ice_net.specs.Drives.{output_type, enabled_type}
use Rattle.ice_sim_sweep.specs.declared.parts.Gate.{Gate}
use Rattle.ice_sim_sweep.specs.declared.parts.Link.{Link}
use Rattle.ice_sim_sweep.specs.declared.parts.Tap.{Tap}
use Rattle.ice_sim_sweep.specs.declared.parts.Keeper.{Keeper}
use Rattle.ice_sim_sweep.specs.declared.parts.Feed.{Feed}
use Rattle.ice_sim_sweep.specs.declared.parts.Feed.TheVariants.{Nothing, Port as FromPort, Kept, Made}
use Rattle.ice_sim_sweep.specs.Slots.{slot_at, gate_of, enable_slot, set_slot}

-- ---- signals
-- the majority of the first three inputs, and the first input, as tables
abbrev pub majority_table : ℕ
majority_table = 232

abbrev pub first_table : ℕ
first_table = 2

-- D_IN_0 of an SB_IO has the level of the port whose pad drives the signal at its PACKAGE_PIN
abbrev pub pad_feed : SignalDriver → Feed
pad_feed driver.Nothing = Nothing
pad_feed (driver.Pad k) = FromPort k
pad_feed (driver.Output i) = Nothing

abbrev pub pin_feed : NetlistData → Option SignalNo → Feed
pin_feed n None = Nothing
pin_feed n (Some pin) = pad_feed (driver_of n pin.0)

-- where the level at the output of the cell at place i comes from, which is signal s
abbrev pub kind_feed : NetlistData → ℕ → ℕ → CellKind → List (Option SignalNo) → Feed
kind_feed n s i (Lut table) ins = Made (gate_of (length n.names) table ins s)
kind_feed n s i (Cover table width) ins = Made (gate_of (length n.names) table ins s)
kind_feed n s i Carry ins = Made (gate_of (length n.names) majority_table ins s)
kind_feed n s i (Flop falling enable reset) ins = Kept i
kind_feed n s i (PadCell pin_type pullup) ins = pin_feed n (slice_index_or ins 0 None)
kind_feed n s i Global ins = Made (gate_of (length n.names) first_table ins s)

abbrev pub cell_feed : NetlistData → ℕ → ℕ → Option Cell → Feed
cell_feed n s i None = Nothing
cell_feed n s i (Some cell) = kind_feed n s i cell.kind cell.ins

abbrev pub driver_feed : NetlistData → ℕ → SignalDriver → Feed
driver_feed n s driver.Nothing = Nothing
driver_feed n s (driver.Pad k) = FromPort k
driver_feed n s (driver.Output i) = cell_feed n s i (slice_get n.cells i)

-- where the level of a signal comes from
abbrev pub feed_of : NetlistData → ℕ → Feed
feed_of n s = driver_feed n s (driver_of n s)

-- the place of the port whose level a signal takes, and of the cell that keeps it
abbrev pub port_in : Feed → Option ℕ
port_in Nothing = None
port_in (FromPort k) = Some k
port_in (Kept i) = None
port_in (Made gate) = None

abbrev pub kept_in : Feed → Option ℕ
kept_in Nothing = None
kept_in (FromPort k) = None
kept_in (Kept i) = Some i
kept_in (Made gate) = None

-- the signal as one that takes the level at a place, if it does
abbrev pub linked : ℕ → Option ℕ → List Link
linked s None = []
linked s (Some from) = (record { from = from; to = s }) ∷ []

-- the table that makes a signal, if one does
abbrev pub gate_in : Feed → List Gate
gate_in Nothing = []
gate_in (FromPort k) = []
gate_in (Kept i) = []
gate_in (Made gate) = gate ∷ []

-- ---- ports
-- a port that drives nothing
abbrev pub no_tap : ℕ → Tap
no_tap signals = record { level = signals; enable = signals }

-- a port without an SB_IO
abbrev pub bare_tap : ℕ → Way → ℕ → Tap
bare_tap signals Input s = no_tap signals
bare_tap signals Output s = record { level = s; enable = signals + 1 }
bare_tap signals Both s = no_tap signals

-- a port at an SB_IO of a type, by its inputs
abbrev pub pad_tap : ℕ → ℕ → List (Option SignalNo) → Tap
pad_tap signals pin_type ins =
    if pin_type == output_type then record { level = slot_at signals ins 1; enable = signals + 1 }
    else (if pin_type == enabled_type then record { level = slot_at signals ins 1; enable = slot_at signals ins 2 } else no_tap signals)

abbrev pub kind_tap : ℕ → CellKind → List (Option SignalNo) → Tap
kind_tap signals (Lut table) ins = no_tap signals
kind_tap signals (Cover table width) ins = no_tap signals
kind_tap signals Carry ins = no_tap signals
kind_tap signals (Flop falling enable reset) ins = no_tap signals
kind_tap signals (PadCell pin_type pullup) ins = pad_tap signals pin_type ins
kind_tap signals Global ins = no_tap signals

abbrev pub buffer_tap : ℕ → Option Cell → Tap
buffer_tap signals None = no_tap signals
buffer_tap signals (Some cell) = kind_tap signals cell.kind cell.ins

abbrev pub tap_by : NetlistData → Port → Option ℕ → Tap
tap_by n port None = bare_tap (length n.names) port.way port.signal.0
tap_by n port (Some i) = buffer_tap (length n.names) (slice_get n.cells i)

-- what a port drives
abbrev pub tap_of : NetlistData → Port → Tap
tap_of n port = tap_by n port (buffer_at n.cells port.signal.0)

-- ---- flip-flops
-- the flip-flop that is the cell at place i, if it is one
abbrev pub keeper_at : ℕ → ℕ → CellKind → List (Option SignalNo) → List Keeper
keeper_at signals i (Lut table) ins = []
keeper_at signals i (Cover table width) ins = []
keeper_at signals i Carry ins = []
keeper_at signals i (Flop falling enable reset) ins = (record {
  cell = i;
  clock = slot_at signals ins 0;
  datum = slot_at signals ins 1;
  enable = enable_slot signals enable ins;
  set = set_slot signals enable ins;
  falling = falling;
  reset = reset;
}) ∷ []
keeper_at signals i (PadCell pin_type pullup) ins = []
keeper_at signals i Global ins = []

-- the flip-flops among cells of which the first has place i
abbrev pub keepers_of : ℕ → ℕ → List Cell → List Keeper
keepers_of signals i [] = []
keepers_of signals i (cell ∷ cells) = keeper_at signals i cell.kind cell.ins ++ keepers_of signals (suc i) cells
