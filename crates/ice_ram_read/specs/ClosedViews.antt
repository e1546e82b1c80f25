-- What contracts see of a closed netlist.
use Rattle.std.specs.Prelude.{◌≡◌, ◌+◌, ◌*◌, length}
use Rattle.ice_ram_read.specs.declared.closed.ClosedNetlist.TheInside.{Inside}
use Rattle.ice_ram_read.specs.ClosedNetlists.{ClosedNetlistData}

abbrev pub closed_view : Inside → ClosedNetlistData
closed_view c = record { netlist = c.netlist; first = c.first; rams = c.rams.items }

-- behind the first ports stand 74 of each RAM, and no more
abbrev pub IsClosedNetlist : Inside → Type 0
IsClosedNetlist c = length c.netlist.ports ≡ c.first + 74 * length c.rams.items
