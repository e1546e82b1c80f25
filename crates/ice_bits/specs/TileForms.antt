-- The kinds of tiles, and their bits before any is written.
use Rattle.std.specs.Prelude.{Bool, List}
use Rattle.ice_base.specs.declared.number.TileAt.{TileAt}
use Rattle.ice_chip.specs.Database.{columns}
use Rattle.ice_chip.specs.declared.rows.TileKind.{TileKind}
use Rattle.ice_chip.specs.declared.tile.Tile.{Tile}
use Rattle.ice_bits.specs.Grids.{blank_rows}

abbrev pub kind_of : Tile → TileKind
kind_of tile = tile.kind

-- the bits of a tile, all 0
abbrev pub blank_at : Tile → TileAt × List (List Bool)
blank_at tile = (tile.at, blank_rows (columns tile.kind))
