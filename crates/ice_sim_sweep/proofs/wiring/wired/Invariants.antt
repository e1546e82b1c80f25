use Rattle.std.proofs.Common.{◌≡◌, ◌++◌, drop}
use Rattle.ice_sim_sweep.specs.Feeds.{port_in, kept_in}
use Rattle.ice_sim_sweep.specs.Arrays.{links_from, gates_from}
use Rattle.ice_sim_sweep.proofs.wiring.wired.Given as goal

abbrev pub invariant-loop-slot : goal.invariant-loop-slot
invariant-loop-slot l =
    (links_from port_in 0 l.feeds ≡ l.pads.items ++ links_from port_in l.slot (drop l.slot l.feeds))
    × (links_from kept_in 0 l.feeds ≡ l.keeps.items ++ links_from kept_in l.slot (drop l.slot l.feeds))
    × (gates_from l.feeds ≡ l.gates.items ++ gates_from (drop l.slot l.feeds))
