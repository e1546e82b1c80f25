use Rattle.std.proofs.Common.{◌≡◌, vec_len}
use Rattle.ice_negotiate_round.proofs.placing.empty_trees.Given as goal

abbrev pub invariant-loop-task : goal.invariant-loop-task
invariant-loop-task l = vec_len l.trees ≡ l._task
