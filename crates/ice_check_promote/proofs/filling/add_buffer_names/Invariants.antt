use Rattle.std.proofs.Common.{◌≡◌, take}
use Rattle.ice_net_additions.specs.Adding.{with_names}
use Rattle.ice_check_promote.specs.Filling.{buffer_names}
use Rattle.ice_check_promote.proofs.filling.add_buffer_names.Given as goal

abbrev pub invariant-loop-clock : goal.invariant-loop-clock
invariant-loop-clock l = l.made ≡ with_names l.fn.made (take l.clock-index (buffer_names l.netlist l.clocks))
