use Rattle.std.proofs.Common.{◌≡◌, take}
use Rattle.ice_net_additions.specs.Adding.{with_names}
use Rattle.ice_carry_tails.specs.Tails.{tail_names}
use Rattle.ice_carry_tails.proofs.adding.add_names.Given as goal

abbrev pub invariant-loop-signal : goal.invariant-loop-signal
invariant-loop-signal l = l.netlist ≡ with_names l.fn.netlist (take l.signal (tail_names l.fn.netlist.names l.count))
