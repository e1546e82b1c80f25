-- What drives the signals of a netlist: pads, and the outputs of cells.
use Rattle.std.specs.Prelude.{ℕ, Bool, true, false, ◌==◌, List, [], ◌∷◌, map, Option, Some, None, if◌then◌else◌, option_map, slice_index_or}
use Rattle.std.proofs.Common.{suc}
use Rattle.ice_base.specs.declared.number.SignalNo.{SignalNo}
use Rattle.ice_net.specs.declared.cell.Cell.{Cell}
use Rattle.ice_net.specs.declared.kind.CellKind.{CellKind}
use Rattle.ice_net.specs.declared.kind.CellKind.TheVariants.{PadCell}
use Rattle.ice_net.specs.declared.port.Port.{Port}
use Rattle.ice_net.specs.declared.port.Way.{Way}
use Rattle.ice_net.specs.declared.port.Way.TheVariants.{Input, Output, Both}
use Rattle.ice_net.specs.declared.driver.SignalDriver.{SignalDriver}
use Rattle.ice_net.specs.declared.driver.SignalDriver.TheVariants as driver
use Rattle.ice_net.specs.NetlistData.{NetlistData}

-- the number of a signal that may be missing
abbrev pub signal_number : Option SignalNo → Option ℕ
signal_number None = None
signal_number (Some signal) = Some signal.0

abbrev pub numbers : List (Option SignalNo) → List (Option ℕ)
numbers signals = map signal_number signals

-- a signal that may be missing is this one
abbrev pub is_signal : ℕ → Option SignalNo → Bool
is_signal s None = false
is_signal s (Some signal) = signal.0 == s

-- the first place at which a signal stands
abbrev pub place_of : ℕ → List (Option SignalNo) → Option ℕ
place_of s [] = None
place_of s (signal ∷ signals) = if is_signal s signal then Some 0 else option_map suc (place_of s signals)

abbrev pub is_there : Option ℕ → Bool
is_there None = false
is_there (Some place) = true

-- ---- pads
-- the signal at the PACKAGE_PIN of an SB_IO; other cells have none
abbrev pub pin_by : CellKind → List (Option SignalNo) → Option SignalNo
pin_by (PadCell pin_type pullup) ins = slice_index_or ins 0 None
pin_by kind ins = None

abbrev pub pin_of : Cell → Option SignalNo
pin_of cell = pin_by cell.kind cell.ins

-- the place of the first SB_IO at a signal
abbrev pub buffer_at : List Cell → ℕ → Option ℕ
buffer_at cells s = place_of s (map pin_of cells)

abbrev pub has_buffer : List Cell → ℕ → Bool
has_buffer cells s = is_there (buffer_at cells s)

-- The pad of an Input or a Both port drives the port's signal. That of an Output port does where it is at an SB_IO, of any type.
abbrev pub pad_by : Port → Bool → Way → Option SignalNo
pad_by port buffered Output = if buffered then Some port.signal else None
pad_by port buffered way = Some port.signal

-- the signal that the pad of a port drives
abbrev pub pad_of : List Cell → Port → Option SignalNo
pad_of cells port = pad_by port (has_buffer cells port.signal.0) port.way

-- ---- outputs
-- the signal that a cell drives: the one at its first output. D_IN_1, the second output of an SB_IO, drives nothing.
abbrev pub output_of : Cell → Option SignalNo
output_of cell = slice_index_or cell.outs 0 None

-- ---- the driver of a signal
-- what has the first of the places, if there is one
abbrev pub driver_from : Option ℕ → Option ℕ → SignalDriver
driver_from (Some k) cell = driver.Pad k
driver_from None (Some i) = driver.Output i
driver_from None None = driver.Nothing

-- the signals that pads drive, port by port
abbrev pub pad_signals : NetlistData → List (Option SignalNo)
pad_signals n = map (pad_of n.cells) n.ports

-- the signals that outputs drive, cell by cell
abbrev pub outputs : NetlistData → List (Option SignalNo)
outputs n = map output_of n.cells

-- what drives a signal: the first port whose pad does, or else the first cell whose output does
abbrev pub driver_of : NetlistData → ℕ → SignalDriver
driver_of n s = driver_from (place_of s (pad_signals n)) (place_of s (outputs n))
