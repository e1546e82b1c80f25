use Rattle.std.proofs.Common.{◌≡◌, ◌++◌, drop}
use Rattle.ice_cells.specs.Chains.{runs_from}
use Rattle.ice_carry_chains.proofs.run.build_runs.Given as goal

abbrev pub invariant-loop-c : goal.invariant-loop-c
invariant-loop-c l = l.runs.items ++ runs_from l.marks l.number (drop l.c-index l.heads) ≡ runs_from l.marks l.first l.heads
