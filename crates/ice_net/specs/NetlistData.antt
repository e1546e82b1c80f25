-- A netlist: the names of its signals in the order of their numbers, its ports and its cells.
use Rattle.std.specs.Prelude.{ℕ, Bool, ◌==◌, List, [], ◌∷◌, ◌++◌, Option, Some, None, slice_get, slice_set, position}
use Rattle.ice_base.specs.declared.number.SignalNo.{SignalNo}
use Rattle.ice_net.specs.declared.cell.Cell.{Cell}
use Rattle.ice_net.specs.declared.port.Port.{Port}
use Rattle.ice_net.specs.declared.port.Way.{Way}
use Rattle.ice_net.specs.declared.port.Way.TheVariants.{Input, Output, Both}

pub record NetlistData : Type 0 where
  pub names : List (List ℕ)
  pub ports : List Port
  pub cells : List Cell

-- no signals, no ports and no cells
abbrev pub empty_netlist : NetlistData
empty_netlist = record { names = []; ports = []; cells = [] }

-- the way of a port that is named as a port once more
abbrev pub merged : Way → Way → Way
merged Input Input = Input
merged Output Output = Output
merged before now = Both

-- the port is at this signal
abbrev pub is_at : ℕ → Port → Bool
is_at s port = port.signal.0 == s

-- the place of a signal's port
abbrev pub port_at : ℕ → List Port → Option ℕ
port_at s ports = position (is_at s) ports

abbrev pub port_again : List Port → ℕ → SignalNo → Way → Option Port → List Port
port_again ports k signal way None = ports
port_again ports k signal way (Some port) = slice_set ports k (record { signal = port.signal; way = merged port.way way })

abbrev pub port_by : List Port → SignalNo → Way → Option ℕ → List Port
port_by ports signal way None = ports ++ (record { signal = signal; way = way }) ∷ []
port_by ports signal way (Some k) = port_again ports k signal way (slice_get ports k)

-- the ports after a signal is made one: a new port goes last, and one that is there already becomes Both where the ways differ
abbrev pub with_port : List Port → SignalNo → Way → List Port
with_port ports signal way = port_by ports signal way (port_at signal.0 ports)
