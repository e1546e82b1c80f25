-- A chip: the rows of a database, and the maps and lists by which it answers at once.
use Rattle.ice_chip.specs.Database.{Parts}
use Rattle.ice_chip.specs.IndexForms.{IsWireIndex, IsServerIndex, IsPlaceIndex}
use Rattle.ice_chip.specs.IsRead.{IsChip}
use Rattle.ice_chip.specs.Views.{parts_view}
use Rattle.ice_chip.specs.declared.chip.Chip.TheInside.{Inside}

abbrev pub chip_view : Inside → Parts
chip_view c = parts_view c.parts

-- each map and list is what the rows make of it, and the rows are those of a chip
pub record IsIndexed (c : Inside) : Type 0 where
  pub wires : IsWireIndex (parts_view c.parts) c.wires
  pub servers : IsServerIndex (parts_view c.parts) c.servers
  pub places : IsPlaceIndex (parts_view c.parts) c.places
  pub chip : IsChip (parts_view c.parts)
