use Rattle.std.proofs.Common.{◌≡◌, ◌-◌, ◌≤◌, [], length}
use Rattle.ice_check_promote.specs.Promoted.{is_promotable}
use Rattle.ice_check_promote.proofs.Chosen.{chosen}
use Rattle.ice_check_promote.proofs.choosing.first_promotable.Given as goal

abbrev pub invariant-loop-signal : goal.invariant-loop-signal
invariant-loop-signal l =
    (chosen (is_promotable l.netlist) l.most l.clocks.items l.signal (length l.netlist.names - l.signal) ≡ chosen (is_promotable l.netlist) l.most [] 0 (length l.netlist.names))
    × (length l.clocks.items ≤ l.most)
