-- Cells in pieces of eight, as many as a tile has slots.
use Rattle.std.specs.Prelude.{ℕ, ◌+◌, ◌*◌, ◌/◌, List, filter_map, take, drop, length, Option, None, Some, slice_get, option_and_then}
use Rattle.ice_net.specs.declared.kind.Reset.{Reset}
use Rattle.ice_cells.specs.declared.cell.Control.{Control}
use Rattle.ice_cells.specs.declared.cell.LogicCell.{LogicCell}

-- how many pieces of eight, the last of them shorter
abbrev pub pieces_count : List ℕ → ℕ
pieces_count cells = (length cells + 7) / 8

abbrev pub piece : List ℕ → ℕ → List ℕ
piece cells k = take 8 (drop (8 * k) cells)

abbrev pub control_by : Option (Control × Reset) → Option Control
control_by None = None
control_by (Some flop) = Some flop.0

-- how the flip-flop of a cell is driven, if it has one
abbrev pub control_at : List LogicCell → ℕ → Option Control
control_at cells c = option_and_then (λ (cell : LogicCell). control_by cell.flop) (slice_get cells c)

-- how the first flip-flop among cells is driven
abbrev pub first_control : List LogicCell → List ℕ → Option Control
first_control cells members = slice_get (filter_map (control_at cells) members) 0
