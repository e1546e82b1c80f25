use Rattle.std.proofs.Common.{ℕ, ◌<◌, ◌≤◌}
use Rattle.ice_base_values.specs.Order.{At}
use Rattle.ice_base_values.specs.declared.search.Mark.TheVariants.{Done}
use Rattle.ice_base_values.proofs.search.first_not_done.Given as goal

abbrev pub invariant-loop-place : goal.invariant-loop-place
invariant-loop-place l = (j point : ℕ) → l.cursor ≤ j → j < l.place → At l.reads j point → At l.marks point Done
