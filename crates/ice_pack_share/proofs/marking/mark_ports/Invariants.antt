use Rattle.std.proofs.Common.{◌≡◌, drop, map}
use Rattle.ice_cells.specs.Uses.{port_reading, marked}
use Rattle.ice_pack_share.proofs.marking.mark_ports.Given as goal

abbrev pub invariant-loop-port : goal.invariant-loop-port
invariant-loop-port l = marked l.uses.items (map (port_reading l.origins) (drop l.port-index l.bare)) ≡ marked l.initial.uses.items (map (port_reading l.origins) l.bare)
