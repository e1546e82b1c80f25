use Rattle.std.proofs.Common.{◌≡◌, map}
use Rattle.std.specs.List.{range_with_len}
use Rattle.ice_back_laws.specs.Back.{pad_port}
use Rattle.ice_back.proofs.logic.add_ports.Given as goal

abbrev pub invariant-loop-number : goal.invariant-loop-number
invariant-loop-number l = l.netlist ≡ record l.fn.netlist { ports = map pad_port (range_with_len 0 l.number) }
