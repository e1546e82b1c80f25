-- The lines of a wire of two pins, told by the rows of names.
use Rattle.std.specs.Prelude.{◌≡◌, true, false, List}
use Rattle.ice_base.specs.declared.number.TileAt.{TileAt}
use Rattle.ice_chip.specs.Database.{Parts, WireName, tile_known}
use Rattle.ice_chip.specs.SharedPins.{is_pin, same_pin, shared_pin}
use Rattle.ice_chip.specs.WholeFaults.{placed}
use Rattle.ice_chip.specs.declared.rows.TileLine.{TileLine}
use Rattle.ice_chip_laws.specs.FirstTwo.{AreLinesOfFirst}

-- two rows give one wire input or output names that are not of one pin
pub record AreTwoPins (tiles : List (TileAt × TileLine)) (one other : WireName) : Type 0 where
  pub wire : one.wire ≡ other.wire
  pub one_is_pin : is_pin (tile_known tiles one.tile) one.name ≡ true
  pub other_is_pin : is_pin (tile_known tiles other.tile) other.name ≡ true
  pub different : same_pin (placed one) (placed other) ≡ false

abbrev pub SharedPinIsFirst : Type 0
SharedPinIsFirst = (parts : Parts) → AreLinesOfFirst (AreTwoPins parts.tiles) parts.names (shared_pin parts)
