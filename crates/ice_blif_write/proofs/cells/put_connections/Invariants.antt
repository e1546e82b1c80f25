use Rattle.std.proofs.Common.{◌≡◌, ◌+◌, ◌++◌, drop}
use Rattle.std.specs.List.{flat_map}
use Rattle.ice_blif_write.specs.Text.{behind_space, connections, port_names}
use Rattle.ice_blif_write.proofs.cells.put_connections.Given as goal

abbrev pub invariant-loop-place : goal.invariant-loop-place
invariant-loop-place l =
    l.out.items ++ flat_map behind_space (connections l.netlist.names (drop (l.first + l.place) (port_names l.kind)) (drop l.place l.signals))
    ≡ l.fn.out.items ++ flat_map behind_space (connections l.netlist.names (drop l.first (port_names l.kind)) l.signals)
