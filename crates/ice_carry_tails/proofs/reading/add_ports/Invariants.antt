use Rattle.std.proofs.Common.{◌≡◌, ◌++◌, map, take}
use Rattle.ice_carry_tails.specs.Ends.{port_signal}
use Rattle.ice_carry_tails.proofs.reading.add_ports.Given as goal

abbrev pub invariant-loop-port : goal.invariant-loop-port
invariant-loop-port l = l.list.items ≡ l.fn.list.items ++ map port_signal (take l.port-index l.ports)
