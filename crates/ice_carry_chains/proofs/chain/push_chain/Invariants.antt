use Rattle.std.proofs.Common.{◌≡◌, ◌++◌, ◌-◌, length}
use Rattle.ice_cells.specs.Chains.{chain, end}
use Rattle.ice_carry_chains.proofs.chain.push_chain.Given as goal

abbrev pub invariant-loop-step : goal.invariant-loop-step
invariant-loop-step l =
    (l.cells.items ++ chain l.marks (length l.marks - l.step) l.at ≡ l.initial.cells.items ++ chain l.marks (length l.marks) l.head)
    × (end l.marks (length l.marks - l.step) l.at ≡ end l.marks (length l.marks) l.head)
