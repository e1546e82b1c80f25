-- The lines of a name of two wires, told by the rows of names.
use Rattle.std.specs.Prelude.{◌≡◌, true, List, []}
use Rattle.ice_base.specs.declared.number.TileAt.{TileAt}
use Rattle.ice_chip.specs.Database.{Parts, WireName}
use Rattle.ice_chip.specs.Lookups.{is_placed}
use Rattle.ice_chip.specs.WholeFaults.{placed, name_of_two_wires}
use Rattle.ice_chip.specs.declared.rows.TileLine.{TileLine}
use Rattle.ice_chip_laws.specs.FirstTwo.{AreLinesOfFirst}

-- two rows give one name at one place with a tile to different wires
pub record AreOfTwoWires (tiles : List (TileAt × TileLine)) (one other : WireName) : Type 0 where
  pub tile : is_placed tiles one ≡ true
  pub name : placed one ≡ placed other
  pub wires : one.wire ≡ other.wire → ⊥

abbrev pub NameOfTwoWiresIsFirst : Type 0
NameOfTwoWiresIsFirst = (parts : Parts) → AreLinesOfFirst (AreOfTwoWires parts.tiles) parts.names (name_of_two_wires parts.tiles [] parts.names)
