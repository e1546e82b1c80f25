-- Tiles without those that stand twice.
use Rattle.std.specs.Prelude.{List, [], ◌∷◌, ◌++◌, if◌then◌else◌}
use Rattle.std.specs.List.{list_any}
use Rattle.ice_base.specs.declared.number.TileAt.{TileAt}
use Rattle.ice_chip.specs.Database.{same_tile}

-- a tile behind the others, where it isn't among them
abbrev pub with_tile : List TileAt → TileAt → List TileAt
with_tile seen t = if list_any (same_tile t) seen then seen else seen ++ t ∷ []

-- the tiles seen so far, and then those that are new
abbrev pub different : List TileAt → List TileAt → List TileAt
different seen [] = seen
different seen (t ∷ tiles) = different (with_tile seen t) tiles
