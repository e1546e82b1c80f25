use Rattle.std.proofs.Common.{◌≡◌, drop}
use Rattle.ice_ram_read.specs.ClosedNetlists.{cut_says}
use Rattle.ice_ram_read.proofs.cutting.cut.Given as goal

abbrev pub invariant-loop-ram : goal.invariant-loop-ram
invariant-loop-ram l = cut_says l.fn.netlist l.rams ≡ cut_says l.netlist (drop l.ram-index l.rams)
