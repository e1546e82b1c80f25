-- The plan of a design of its parts.
use Rattle.std.specs.Prelude.{ℕ, List, Option}
use Rattle.ice_cells.specs.declared.origin.Origin.{Origin}
use Rattle.ice_cells.specs.declared.root.Root.{Root}
use Rattle.ice_cells.specs.Homes.{Facts}
use Rattle.ice_cells.specs.Packed.{PackPlan}

abbrev pub plan_with : List Origin → Facts → List (Option ℕ) → List (Option Root) → ℕ → ℕ → PackPlan
plan_with os facts carriers roots low high = record { origins = os; facts = facts; carriers = carriers; roots = roots; zero = low; one = high }
