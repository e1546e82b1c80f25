use Rattle.std.proofs.Common.{◌≡◌, ◌-◌, length}
use Rattle.std.specs.List.{fold}
use Rattle.std.specs.Prelude.{min}
use Rattle.ice_cells.specs.Chains.{chain}
use Rattle.ice_carry_chains.proofs.chain.lowest.Given as goal

abbrev pub invariant-loop-step : goal.invariant-loop-step
invariant-loop-step l = fold min l.low (chain l.marks (length l.marks - l.step) l.at) ≡ fold min l.head (chain l.marks (length l.marks) l.head)
