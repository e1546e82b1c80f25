-- Logic tiles among tiles with their kinds.
use Rattle.std.specs.Prelude.{List, map, filter, Bool}
use Rattle.ice_base.specs.declared.number.TileAt.{TileAt}
use Rattle.ice_chip.specs.declared.tile.Tile.{Tile}
use Rattle.ice_decode.specs.Cells.{is_logic}

abbrev pub has_cells : Tile → Bool
has_cells tile = is_logic tile.kind

-- the places of the logic tiles among these
abbrev pub logic_among : List Tile → List TileAt
logic_among tiles = map (λ (tile : Tile). tile.at) (filter has_cells tiles)
