use Rattle.std.proofs.Common.{◌≡◌, take}
use Rattle.ice_check_promote.proofs.filling.add_ports.Given as goal

abbrev pub invariant-loop-port : goal.invariant-loop-port
invariant-loop-port l = l.made ≡ record l.fn.made { ports = take l.port-index l.ports }
