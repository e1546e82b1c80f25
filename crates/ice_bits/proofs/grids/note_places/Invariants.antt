use Rattle.std.proofs.Common.{◌≡◌, take}
use Rattle.std.specs.Map.{lookup}
use Rattle.ice_base.specs.declared.number.TileAt.{TileAt}
use Rattle.ice_chip.specs.Database.{same_tile}
use Rattle.ice_bits.specs.TilePlaces.{place_in}
use Rattle.ice_bits.proofs.grids.note_places.Given as goal

abbrev pub invariant-loop-place : goal.invariant-loop-place
invariant-loop-place l = (t : TileAt) → lookup (same_tile t) l.places.entries ≡ place_in t (take l.place l.tiles)
