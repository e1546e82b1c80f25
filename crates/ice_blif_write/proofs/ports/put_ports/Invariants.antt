use Rattle.std.proofs.Common.{◌≡◌, ◌++◌, map, take}
use Rattle.std.specs.List.{flat_map}
use Rattle.ice_base.specs.Lines.{text_of_lines}
use Rattle.ice_blif_write.specs.Text.{line_of, port_lines}
use Rattle.ice_blif_write.proofs.ports.put_ports.Given as goal

abbrev pub invariant-loop-port : goal.invariant-loop-port
invariant-loop-port l = l.out.items ≡ l.fn.out.items ++ text_of_lines (map line_of (flat_map (port_lines l.netlist.names) (take l.port-index l.ports)))
