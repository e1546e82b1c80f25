use Rattle.std.proofs.Common.{◌≡◌, map, take}
use Rattle.ice_net.specs.Drivers.{pad_of}
use Rattle.ice_check.proofs.lists.pads.Given as goal

abbrev pub invariant-loop-port : goal.invariant-loop-port
invariant-loop-port l = l.list.items ≡ map (pad_of l.netlist.cells) (take l.port-index l.netlist.ports)
