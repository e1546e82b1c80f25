-- A configured chip in a package, while its netlist is made.
use Rattle.std.specs.Prelude.{◌≡◌}
use Rattle.ice_base_values.specs.Order.{Has}
use Rattle.ice_chip.specs.Database.{Parts, PackageRows}
use Rattle.ice_chip.specs.IsRead.{IsChip}
use Rattle.ice_chip.specs.Views.{package_view}
use Rattle.ice_chip_laws.specs.Names.{HasNames}
use Rattle.ice_bits.specs.Configuration.{Configuration, bits_of}
use Rattle.ice_decode.specs.Cells.{logic_tiles}
use Rattle.ice_decode.specs.Refusals.{IsFaultless, IsCircuitOf}
use Rattle.ice_back_points.specs.declared.configured.ConfiguredChip.TheInside.{Inside}
use Rattle.ice_back_points.specs.Filling.{AreRoots}

-- the chip, its bits and the package
pub record ConfiguredData : Type 0 where
  pub parts : Parts
  pub configuration : Configuration
  pub bonded : PackageRows

abbrev pub configured_view : Inside → ConfiguredData
configured_view s = record { parts = s.chip.now; configuration = s.circuit.now.configuration; bonded = package_view s.«package».now }

-- the bits have no fault, and the package is one of the chip's
pub record IsConfigured (d : ConfiguredData) : Type 0 where
  pub chip : IsChip d.parts
  pub names : HasNames d.parts
  pub faultless : IsFaultless d.parts (bits_of d.configuration) d.configuration.extras
  pub listed : Has d.parts.packages d.bonded

pub record IsConfiguredChip (s : Inside) : Type 0 where
  pub configured : IsConfigured (configured_view s)
  pub circuit : IsCircuitOf s.chip.now s.circuit.now.configuration s.circuit.now
  pub tiles : s.tiles.keys ≡ logic_tiles s.chip.now
  pub roots : AreRoots s.chip.now (bits_of s.circuit.now.configuration) s.circuit.now.configuration.extras (package_view s.«package».now).pads s.roots.items
