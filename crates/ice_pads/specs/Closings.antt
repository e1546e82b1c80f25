-- How netlists are closed.
use Rattle.std.specs.Prelude.{ℕ, take, length}
use Rattle.ice_net.specs.NetlistData.{NetlistData}
use Rattle.ice_pads.specs.declared.closing.Closing.{Closing}

-- all ports are seen from outside, and no block RAM closes the netlist
abbrev pub open_closing : NetlistData → Closing
open_closing n = record { first = length n.ports; rams = 0 }

-- a netlist with so many of its ports
abbrev pub with_first : ℕ → NetlistData → NetlistData
with_first first n = record { names = n.names; ports = take first n.ports; cells = n.cells }
