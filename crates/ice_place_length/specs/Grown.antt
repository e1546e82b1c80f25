-- Boxes of nets, load by load.
use Rattle.std.specs.Prelude.{List, map, filter, fold}
use Rattle.ice_cells.specs.declared.root.Root.{Root}
use Rattle.ice_place_defs.specs.Plan.{plan_in}
use Rattle.ice_place_defs.specs.Loads.{Load, loads}
use Rattle.ice_place_defs.specs.Length.{Box, with_tile, is_of_root, load_tile}
use Rattle.ice_place_length.specs.declared.boxes.Span.{Span}
use Rattle.ice_place_defs.specs.declared.placed.Placed.{Placed}

-- the box of a span
abbrev pub box_in : Span → Box
box_in span = record { left = span.left; right = span.right; low = span.low; high = span.high }

-- the least box that has the tiles of those loads, too, that read a root
unfoldable pub grown : Root → Box → List Load → Box
grown root box loads = fold with_tile box (map load_tile (filter (is_of_root root) loads))

abbrev pub loads_in : Placed → List Load
loads_in placed = loads placed.chip.now (plan_in placed)
