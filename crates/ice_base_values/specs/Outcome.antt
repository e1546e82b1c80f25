-- What the search for an order answers.
use Rattle.std.specs.Prelude.{ℕ, List, length}
use Rattle.ice_base_values.specs.Graph.{depends_of}
use Rattle.ice_base_values.specs.Order.{IsOrder, IsSimpleCycle}
use Rattle.ice_base_values.specs.declared.search.Outcome.{Outcome}
use Rattle.ice_base_values.specs.declared.search.Outcome.TheVariants.{Order, Cycle}

-- an order of evaluation of all points of the graph, or a cycle of points of it; by the laws there can't be both
abbrev pub IsOutcome : List (List ℕ) → Outcome → Type 0
IsOutcome rows (Order order) = IsOrder (length rows) (depends_of rows) order.items
IsOutcome rows (Cycle cycle) = IsSimpleCycle (length rows) (depends_of rows) cycle.items
