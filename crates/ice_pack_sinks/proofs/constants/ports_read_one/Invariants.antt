use Rattle.std.proofs.Common.{◌≡◌, drop}
use Rattle.std.specs.List.{list_any}
use Rattle.ice_cells.specs.Packed.{port_one}
use Rattle.ice_pack_sinks.proofs.constants.ports_read_one.Given as goal

abbrev pub invariant-loop-port : goal.invariant-loop-port
invariant-loop-port l = list_any (port_one l.origins) l.ports ≡ list_any (port_one l.origins) (drop l.port-index l.ports)
