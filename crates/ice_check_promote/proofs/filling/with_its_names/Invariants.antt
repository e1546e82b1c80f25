use Rattle.std.proofs.Common.{◌≡◌, take}
use Rattle.ice_net.specs.NetlistData.{empty_netlist}
use Rattle.ice_net_additions.specs.Adding.{with_names}
use Rattle.ice_check_promote.proofs.filling.with_its_names.Given as goal

abbrev pub invariant-loop-signal : goal.invariant-loop-signal
invariant-loop-signal l = l.made ≡ with_names empty_netlist (take l.signal l.netlist.names)
