-- Pins of tiles, by the names of their wires.
use Rattle.std.specs.Prelude.{◌≡◌, ℕ, true, Some}
use Rattle.ice_base.specs.declared.number.TileAt.{TileAt}
use Rattle.ice_chip.specs.Database.{Parts}
use Rattle.ice_chip.specs.Lookups.{kind_at, wire_named}
use Rattle.ice_chip.specs.PinNames.{is_input_of, is_output_of}
use Rattle.ice_chip.specs.WireNames.{IsTileWire, wire_name}
use Rattle.ice_chip.specs.declared.rows.TileKind.{TileKind}
use Rattle.ice_chip_names.specs.declared.wire_names.TileWire.{TileWire}
use Rattle.ice_chip_names.specs.declared.wire_names.TileWire.TheVariants as named
use Rattle.ice_chip_sockets.specs.Sockets.{driven_wire}
use Rattle.ice_place_defs.specs.Loads.{Pin, Input, Clock, Enable, SetReset, Feed, Drive, DriveEnable}

-- the wire has the name in the tile, and by this name a tile of its kind reads it
pub record IsInput (parts : Parts) (t : TileAt) (wire : TileWire) (w : ℕ) : Type 0 where
  pub kind : TileKind
  pub kind_is : kind_at parts t ≡ Some kind
  pub within : IsTileWire wire
  pub found : wire_named parts t (wire_name wire) ≡ Some w
  pub reads : is_input_of kind wire ≡ true

-- by this name a tile of its kind drives it
pub record IsOutput (parts : Parts) (t : TileAt) (wire : TileWire) (w : ℕ) : Type 0 where
  pub kind : TileKind
  pub kind_is : kind_at parts t ≡ Some kind
  pub within : IsTileWire wire
  pub found : wire_named parts t (wire_name wire) ≡ Some w
  pub drives : is_output_of kind wire ≡ true

-- the wire of a pin that reads
abbrev pub wire_of : Pin → TileWire
wire_of (Input i k) = named.CellInput i k
wire_of Clock = named.Clock
wire_of Enable = named.ClockEnable
wire_of SetReset = named.SetReset
wire_of Feed = named.Fabout
wire_of (Drive pio) = driven_wire pio
wire_of (DriveEnable pio) = named.OutputEnable pio
