use Rattle.std.proofs.Common.{◌≡◌, ◌-◌}
use Rattle.ice_ram_read.specs.ClosedNetlists.{with_ports}
use Rattle.ice_ram_read.proofs.cutting.add_ports.Given as goal

abbrev pub invariant-loop-k : goal.invariant-loop-k
invariant-loop-k l = with_ports l.fn.netlist l.ram 0 74 ≡ with_ports l.netlist l.ram l.k (74 - l.k)
