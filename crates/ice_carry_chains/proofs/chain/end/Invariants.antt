use Rattle.std.proofs.Common.{◌≡◌, ◌-◌, length}
use Rattle.ice_cells.specs.Chains.{end}
use Rattle.ice_carry_chains.proofs.chain.end.Given as goal

abbrev pub invariant-loop-step : goal.invariant-loop-step
invariant-loop-step l = end l.marks (length l.marks - l.step) l.at ≡ end l.marks (length l.marks) l.head
