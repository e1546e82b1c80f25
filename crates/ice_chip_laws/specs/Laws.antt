-- What the look-ups of a chip owe one another.
use Rattle.ice_chip.specs.Database.{Parts}
use Rattle.ice_chip.specs.IsRead.{IsChip}
use Rattle.ice_chip_laws.specs.Tiles.{HasTiles}
use Rattle.ice_chip_laws.specs.Names.{HasNames}
use Rattle.ice_chip_laws.specs.Pins.{HasPins}
use Rattle.ice_chip_laws.specs.Functions.{HasFunctions}
use Rattle.ice_chip_laws.specs.Bits.{HasOwnBits}
use Rattle.ice_chip_laws.specs.Groups.{HasGroups, HasRows}
use Rattle.ice_chip_laws.specs.Served.{HasServers}

-- the look-ups of the database keep these laws
pub record IsLawful (parts : Parts) : Type 0 where
  pub tiles : HasTiles parts
  pub names : HasNames parts
  pub pins : HasPins parts
  pub functions : HasFunctions parts
  pub bits : HasOwnBits parts
  pub groups : HasGroups parts
  pub rows : HasRows parts
  pub servers : HasServers parts

-- those of every chip do
abbrev pub LookupsAreLawful : Type 0
LookupsAreLawful = (parts : Parts) → IsChip parts → IsLawful parts
