-- The rows of a database with the index of their names.
use Rattle.std.specs.Prelude.{◌≡◌, map}
use Rattle.ice_chip.specs.Database.{Parts}
use Rattle.ice_chip.specs.Indices.{numbered}
use Rattle.ice_chip.specs.Lookups.{placed_names, placed_wire}
use Rattle.ice_chip.specs.NameIndex.{numbered_of, no_names}
use Rattle.ice_chip.specs.Views.{parts_view}
use Rattle.ice_chip.specs.declared.named_parts.NamedParts.TheInside.{Inside}

abbrev pub named_view : Inside → Parts
named_view n = parts_view n.parts

-- the index is that of the rows
abbrev pub IsNamed : Inside → Type 0
IsNamed n = numbered_of n.names ≡ numbered no_names (map placed_wire (placed_names (parts_view n.parts)))
