-- Groups of switches, and the numbers of their rows.
use Rattle.std.specs.Prelude.{◌≡◌, ℕ, ◌+◌, ◌<◌, Some, length}
use Rattle.ice_base.specs.declared.bit.BitAt.{BitAt}
use Rattle.ice_chip.specs.Database.{Parts, SwitchGroup, SwitchRow, columns}
use Rattle.ice_chip.specs.Lookups.{kind_at}
use Rattle.ice_chip.specs.Listings.{rows_of}
use Rattle.ice_chip.specs.declared.rows.TileKind.{TileKind}
use Rattle.ice_base_values.specs.Order.{At, Has}
use Rattle.ice_chip_laws.specs.Tiles.{HasTileAt}

-- a group of switches stands in a tile that has its bits, and its wires are of the chip
pub record HasGroups (parts : Parts) : Type 0 where
  -- a tile stands at the place of a group
  pub placed : (g : SwitchGroup) → Has parts.groups g → HasTileAt parts g.tile
  -- and has the columns of the group's bits
  pub within : (g : SwitchGroup) (kind : TileKind) (b : BitAt) → Has parts.groups g → kind_at parts g.tile ≡ Some kind → Has g.bits b → b.col < columns kind
  -- and the rows, of which there are 16
  pub rows_of_bits : (g : SwitchGroup) (b : BitAt) → Has parts.groups g → Has g.bits b → b.row < 16
  -- a group has one or more bits
  pub some : (g : SwitchGroup) → Has parts.groups g → 0 < length g.bits
  -- and each of its rows has as many values
  pub values : (g : SwitchGroup) (r : SwitchRow) → Has parts.groups g → Has g.rows r → length r.values ≡ length g.bits
  -- a group leads into a wire of the chip
  pub target : (g : SwitchGroup) → Has parts.groups g → g.wire < parts.wires
  -- and each of its rows from one
  pub source : (g : SwitchGroup) (r : SwitchRow) → Has parts.groups g → Has g.rows r → r.source < parts.wires

-- the number of a row is its place among all rows
pub record HasRows (parts : Parts) : Type 0 where
  -- a row of a group stands at the number of the group's first row and its place in the group
  pub numbered : (g : SwitchGroup) (k : ℕ) (r : SwitchRow) → Has parts.groups g → At g.rows k r → At (rows_of parts.groups) (g.first + k) (g, r)
  -- and no other row does
  pub only : (n : ℕ) (g : SwitchGroup) (r : SwitchRow) → At (rows_of parts.groups) n (g, r) → Has parts.groups g × ((k : ℕ) × (n ≡ g.first + k) × At g.rows k r)
