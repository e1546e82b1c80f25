-- Wires and their names.
use Rattle.std.specs.Prelude.{◌≡◌, ℕ, ◌<◌, Some, List}
use Rattle.ice_base.specs.declared.number.TileAt.{TileAt}
use Rattle.ice_chip.specs.Database.{Parts}
use Rattle.ice_chip.specs.Lookups.{names_of, wire_named, placed_at}
use Rattle.ice_chip.specs.declared.placed.PlacedName.{PlacedName}
use Rattle.ice_base_values.specs.Order.{Has}
use Rattle.ice_chip_laws.specs.Tiles.{HasTileAt}

-- the wire has the name
abbrev pub HasName : Parts → ℕ → PlacedName → Type 0
HasName parts w n = Has (names_of parts w) n

-- the names of wires go both ways
pub record HasNames (parts : Parts) : Type 0 where
  -- a wire that is found by a name has the name
  pub found : (t : TileAt) (name : List ℕ) (w : ℕ) → wire_named parts t name ≡ Some w → HasName parts w (placed_at t name)
  -- and is found by each name that it has
  pub named : (t : TileAt) (name : List ℕ) (w : ℕ) → HasName parts w (placed_at t name) → wire_named parts t name ≡ Some w
  -- no two wires have one name in one tile
  pub one_wire : (v w : ℕ) (n : PlacedName) → HasName parts v n → HasName parts w n → v ≡ w
  -- a wire with a name is one of the chip
  pub below : (w : ℕ) (n : PlacedName) → HasName parts w n → w < parts.wires
  -- a tile stands where a wire has a name
  pub placed : (w : ℕ) (n : PlacedName) → HasName parts w n → HasTileAt parts n.tile
