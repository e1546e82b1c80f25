-- The faults of the signals, of the ports and of the SB_IO cells of a netlist, each of which leaves it without a meaning.
use Rattle.std.specs.Prelude.{ℕ, ◌+◌, Bool, false, not, true, ◌&&◌, ◌||◌, List, length, map, nat_lt, Option, Some, None, if◌then◌else◌, slice_get}
use Rattle.std.specs.List.{flat_map}
use Rattle.std.specs.Option.{option_map_or}
use Rattle.std.proofs.Common.{zero, suc}
use Rattle.ice_base.specs.declared.number.SignalNo.{SignalNo}
use Rattle.ice_net.specs.declared.cell.Cell.{Cell}
use Rattle.ice_net.specs.declared.kind.CellKind.{CellKind}
use Rattle.ice_net.specs.declared.kind.CellKind.TheVariants.{Lut, Cover, Carry, Flop, PadCell, Global}
use Rattle.ice_net.specs.declared.port.Port.{Port}
use Rattle.ice_net.specs.declared.port.Way.{Way}
use Rattle.ice_net.specs.declared.port.Way.TheVariants.{Input, Output, Both}
use Rattle.ice_net.specs.NetlistData.{NetlistData}
use Rattle.ice_net.specs.Ways.{way_of}
use Rattle.ice_net.specs.declared.driver.SignalDriver.{SignalDriver}
use Rattle.ice_net.specs.declared.driver.SignalDriver.TheVariants as driver
use Rattle.ice_net.specs.Drivers.{is_there, place_of, pin_of, has_buffer, pad_signals, outputs, driver_of}
use Rattle.ice_net.specs.Uses.{is_type, uses_by}
use Rattle.ice_check.specs.Tables.{times}

-- ---- the first of several
-- the first of so many numbers from k on that passes the test
abbrev pub first_number : (ℕ → Bool) → ℕ → ℕ → Option ℕ
first_number test k zero = None
first_number test k (suc more) = if test k then Some k else first_number test (k + 1) more

-- ---- signals
-- the inputs of a cell that are in use
abbrev pub uses_of : Cell → List (Option SignalNo)
uses_of cell = uses_by cell.kind cell.ins

-- an input in use of some cell reads the signal
abbrev pub is_used : NetlistData → ℕ → Bool
is_used n s = is_there (place_of s (flat_map uses_of n.cells))

abbrev pub shown_by : Port → Bool → Way → Option SignalNo
shown_by port buffered Input = None
shown_by port buffered Output = if buffered then None else Some port.signal
shown_by port buffered Both = None

-- the signal that a port shows: that of an Output port without an SB_IO
abbrev pub shown_of : List Cell → Port → Option SignalNo
shown_of cells port = shown_by port (has_buffer cells port.signal.0) port.way

-- some port shows the signal
abbrev pub is_shown : NetlistData → ℕ → Bool
is_shown n s = is_there (place_of s (map (shown_of n.cells) n.ports))

abbrev pub is_nothing : SignalDriver → Bool
is_nothing driver.Nothing = true
is_nothing (driver.Pad k) = false
is_nothing (driver.Output i) = false

-- nothing drives the signal, and it is read or shown
abbrev pub is_undriven : NetlistData → ℕ → Bool
is_undriven n s = is_nothing (driver_of n s) && (is_used n s || is_shown n s)

-- the signal has two drivers among the pads and the connected outputs
abbrev pub is_driven_twice : NetlistData → ℕ → Bool
is_driven_twice n s = nat_lt 1 (times s (pad_signals n) + times s (outputs n))

-- the first signal that is undriven, and the first that is driven twice
abbrev pub undriven : NetlistData → Option ℕ
undriven n = first_number (is_undriven n) 0 (length n.names)

abbrev pub driven_twice : NetlistData → Option ℕ
driven_twice n = first_number (is_driven_twice n) 0 (length n.names)

-- ---- ports
-- the test of the port at a place
abbrev pub port_is : NetlistData → (Port → Bool) → ℕ → Bool
port_is n test k = option_map_or test (slice_get n.ports k) false

-- a port at more than one SB_IO
abbrev pub is_shared : List Cell → Port → Bool
is_shared cells port = nat_lt 1 (times port.signal.0 (map pin_of cells))

abbrev pub is_bare_by : Bool → Way → Bool
is_bare_by buffered Input = false
is_bare_by buffered Output = false
is_bare_by buffered Both = not buffered

-- a port that is both an input and an output, without an SB_IO
abbrev pub is_bare : List Cell → Port → Bool
is_bare cells port = is_bare_by (has_buffer cells port.signal.0) port.way

-- the place of the first shared port, and that of the first bare one
abbrev pub pad_shared : NetlistData → Option ℕ
pad_shared n = first_number (port_is n (is_shared n.cells)) 0 (length n.ports)

abbrev pub inout_bare : NetlistData → Option ℕ
inout_bare n = first_number (port_is n (is_bare n.cells)) 0 (length n.ports)

-- ---- cells
-- the test of the cell at a place
abbrev pub cell_is : NetlistData → (Cell → Bool) → ℕ → Bool
cell_is n test i = option_map_or test (slice_get n.cells i) false

-- an SB_IO whose PIN_TYPE is none of the three
abbrev pub is_type_out : CellKind → Bool
is_type_out (Lut table) = false
is_type_out (Cover table width) = false
is_type_out Carry = false
is_type_out (Flop falling enable reset) = false
is_type_out (PadCell pin_type pullup) = not (is_type pin_type)
is_type_out Global = false

abbrev pub is_no_way : Option Way → Bool
is_no_way None = true
is_no_way (Some way) = false

abbrev pub is_no_port : List Port → Option SignalNo → Bool
is_no_port ports None = true
is_no_port ports (Some signal) = is_no_way (way_of ports signal.0)

-- an SB_IO whose PACKAGE_PIN is missing or no port
abbrev pub is_portless : List Port → CellKind → Option SignalNo → Bool
is_portless ports (Lut table) pin = false
is_portless ports (Cover table width) pin = false
is_portless ports Carry pin = false
is_portless ports (Flop falling enable reset) pin = false
is_portless ports (PadCell pin_type pullup) pin = is_no_port ports pin
is_portless ports Global pin = false

-- the place of the first SB_IO of no type, and that of the first at no port
abbrev pub pin_type_out : NetlistData → Option ℕ
pin_type_out n = first_number (cell_is n (λ (cell : Cell). is_type_out cell.kind)) 0 (length n.cells)

abbrev pub pin_not_port : NetlistData → Option ℕ
pin_not_port n = first_number (cell_is n (λ (cell : Cell). is_portless n.ports cell.kind (pin_of cell))) 0 (length n.cells)
