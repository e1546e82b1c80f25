-- All sites: those of a placement, and then the free ones.
use Rattle.std.specs.Prelude.{Bool, not, List, ◌++◌, filter}
use Rattle.std.specs.List.{list_any}
use Rattle.ice_base.specs.declared.number.TileAt.{TileAt}
use Rattle.ice_base.specs.Places.{same_tile}
use Rattle.ice_place.specs.Place.{joined}

abbrev pub has_tile : List TileAt → TileAt → Bool
has_tile at t = list_any (same_tile t) at

abbrev pub is_free : List TileAt → TileAt → Bool
is_free at t = not (has_tile at t)

abbrev pub full_of : List (List TileAt) → List TileAt → List TileAt
full_of stretches at = at ++ filter (is_free at) (joined stretches)
