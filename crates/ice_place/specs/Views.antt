-- Slices as lists of tiles.
use Rattle.std.specs.Prelude.{List, map}
use Rattle.std.specs.Borrow.{Bor}
use Rattle.ice_base.specs.declared.number.TileAt.{TileAt}
use Rattle.ice_place.specs.declared.fit.Fits.{Fits}
use Rattle.ice_place.specs.Fit.{Fitting}

abbrev pub tiles_of : List (Bor (List TileAt)) → List (List TileAt)
tiles_of slices = map (λ (slice : Bor (List TileAt)). slice.now) slices

abbrev pub fitting : Fits → Fitting
fitting fits = record { left = tiles_of fits.left.items; taken = tiles_of fits.taken.items }
