-- Trees by their numbers, as they are found by the wires that they hold.
use Rattle.std.specs.Prelude.{ℕ, nat_eq, Bool, false, Option, None, Some, List, slice_get, if◌then◌else◌}
use Rattle.std.specs.Option.{option_map_or, option_and_then}
use Rattle.ice_base.specs.declared.number.WireNo.{WireNo}
use Rattle.ice_base.specs.declared.number.TileAt.{TileAt}
use Rattle.ice_chip.specs.Database.{Parts}
use Rattle.ice_place_defs.specs.Loads.{Input}
use Rattle.ice_emit_nets.specs.Ends.{pin_wire}
use Rattle.ice_graph.specs.Leading.{Route}
use Rattle.ice_emit_defs.specs.Written.{starts_at}
use Rattle.ice_emit.specs.Routed.{owner_from}

-- the tree of that number begins at the wire
abbrev pub begins_at : List Route → ℕ → ℕ → Bool
begins_at routes n v = option_map_or (λ (route : Route). starts_at route.wires v) (slice_get routes n) false

abbrev pub number_if : List Route → ℕ → ℕ → Option ℕ
number_if routes v n = if begins_at routes n v then Some n else None

-- the number of the tree that begins at a wire
abbrev pub tree_no : List Route → Option ℕ → Option ℕ
tree_no routes None = None
tree_no routes (Some v) = option_and_then (number_if routes v) (owner_from 0 routes v)

abbrev pub is_number : ℕ → ℕ → Bool
is_number n m = nat_eq m n

-- the tree of that number holds the wire
abbrev pub is_in : List Route → Option ℕ → Option WireNo → Bool
is_in routes None w = false
is_in routes (Some n) None = false
is_in routes (Some n) (Some w) = option_map_or (is_number n) (owner_from 0 routes w.0) false

-- the first input of a cell whose wire the tree of that number holds
abbrev pub first_in : List Route → Option ℕ → Parts → TileAt → ℕ → Option ℕ
first_in routes tree parts t i =
    if is_in routes tree (pin_wire parts t (Input i 0)) then Some 0
    else (if is_in routes tree (pin_wire parts t (Input i 1)) then Some 1
    else (if is_in routes tree (pin_wire parts t (Input i 2)) then Some 2
    else (if is_in routes tree (pin_wire parts t (Input i 3)) then Some 3 else None)))
