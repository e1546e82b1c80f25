-- Which fault a netlist is refused for.
use Rattle.std.specs.Prelude.{◌≡◌, ℕ, List, map, Option, Some, None, option_map, slice_get, slice_index_or, []}
use Rattle.ice_net.specs.declared.cell.Cell.{Cell}
use Rattle.ice_net.specs.declared.port.Port.{Port}
use Rattle.ice_net.specs.declared.kind.CellKind.{CellKind}
use Rattle.ice_net.specs.declared.kind.CellKind.TheVariants.{Lut, Cover, Carry, Flop, PadCell, Global}
use Rattle.ice_net.specs.NetlistData.{NetlistData}
use Rattle.ice_check.specs.declared.fault.NetFault.{NetFault}
use Rattle.ice_check.specs.declared.fault.NetFault.TheVariants.{Undriven, DrivenTwice, Loop, PadShared, PinTypeOut, PinNotPort, InoutBare, NoMemory}
use Rattle.ice_check.specs.Faults.{undriven, driven_twice, pad_shared, pin_type_out, pin_not_port, inout_bare}
use Rattle.ice_check.specs.Loops.{IsLoop}
use Rattle.ice_check.specs.Sound.{AreSignalsSound}

-- ---- what a fault tells of the place that it is at
-- the name of a signal
abbrev pub signal_name : NetlistData → Option ℕ → Option (List ℕ)
signal_name n None = None
signal_name n (Some s) = slice_get n.names s

abbrev pub name_of_port : NetlistData → Option Port → Option (List ℕ)
name_of_port n None = None
name_of_port n (Some port) = slice_get n.names port.signal.0

-- the name of the port at a place
abbrev pub port_name : NetlistData → Option ℕ → Option (List ℕ)
port_name n None = None
port_name n (Some k) = name_of_port n (slice_get n.ports k)

-- the cell at a place
abbrev pub cell_at : NetlistData → Option ℕ → Option Cell
cell_at n None = None
cell_at n (Some i) = slice_get n.cells i

abbrev pub line_of : NetlistData → Option ℕ → Option ℕ
line_of n place = option_map (λ (cell : Cell). cell.line) (cell_at n place)

-- the PIN_TYPE of an SB_IO, and 0 for other cells
abbrev pub pin_type_by : CellKind → ℕ
pin_type_by (Lut table) = 0
pin_type_by (Cover table width) = 0
pin_type_by Carry = 0
pin_type_by (Flop falling enable reset) = 0
pin_type_by (PadCell pin_type pullup) = pin_type
pin_type_by Global = 0

abbrev pub pin_type_of : NetlistData → Option ℕ → Option ℕ
pin_type_of n place = option_map (λ (cell : Cell). pin_type_by cell.kind) (cell_at n place)

-- the names of signals
abbrev pub names_of : NetlistData → List ℕ → List (List ℕ)
names_of n signals = map (λ s. slice_index_or n.names s []) signals

-- ---- the faults, each with all kinds before it absent
pub record IsTwice (n : NetlistData) (signal : List ℕ) : Type 0 where
  pub driven : undriven n ≡ None
  pub first : signal_name n (driven_twice n) ≡ Some signal

-- any loop may be told; it is told by the names of all its signals
pub record IsLoopOf (n : NetlistData) (names : List (List ℕ)) : Type 0 where
  pub driven : undriven n ≡ None
  pub driven_once : driven_twice n ≡ None
  pub signals : List ℕ
  pub is_loop : IsLoop n signals
  pub names_are : names ≡ names_of n signals

pub record IsPadShared (n : NetlistData) (port : List ℕ) : Type 0 where
  pub signals : AreSignalsSound n
  pub first : port_name n (pad_shared n) ≡ Some port

pub record IsPinTypeOut (n : NetlistData) (line pin_type : ℕ) : Type 0 where
  pub signals : AreSignalsSound n
  pub pads_apart : pad_shared n ≡ None
  pub first : line_of n (pin_type_out n) ≡ Some line
  pub value : pin_type_of n (pin_type_out n) ≡ Some pin_type

pub record IsPinNotPort (n : NetlistData) (line : ℕ) : Type 0 where
  pub signals : AreSignalsSound n
  pub pads_apart : pad_shared n ≡ None
  pub pin_types : pin_type_out n ≡ None
  pub first : line_of n (pin_not_port n) ≡ Some line

pub record IsInoutBare (n : NetlistData) (port : List ℕ) : Type 0 where
  pub signals : AreSignalsSound n
  pub pads_apart : pad_shared n ≡ None
  pub pin_types : pin_type_out n ≡ None
  pub pins_at_ports : pin_not_port n ≡ None
  pub first : port_name n (inout_bare n) ≡ Some port

-- The fault that a netlist is refused for: that of the first kind of which it has one, and of that kind the first in order of
-- signals, ports or cells. Want of memory may come at any time.
abbrev pub IsFaultOf : NetlistData → NetFault → Type 0
IsFaultOf n (Undriven signal) = signal_name n (undriven n) ≡ Some signal
IsFaultOf n (DrivenTwice signal) = IsTwice n signal
IsFaultOf n (Loop signals) = IsLoopOf n signals
IsFaultOf n (PadShared port) = IsPadShared n port
IsFaultOf n (PinTypeOut line pin_type) = IsPinTypeOut n line pin_type
IsFaultOf n (PinNotPort line) = IsPinNotPort n line
IsFaultOf n (InoutBare port) = IsInoutBare n port
IsFaultOf n NoMemory = Unit {0}
