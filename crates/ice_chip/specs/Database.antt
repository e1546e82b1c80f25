-- A chip database as data, and its places. Wires, lines and rows are numbers; names are lists of bytes.
use Rattle.std.specs.Prelude.{ℕ, Bool, List, [], ◌==◌, ◌&&◌, Option}
use Rattle.ice_base.specs.declared.number.TileAt.{TileAt}
use Rattle.ice_base.specs.declared.bit.BitAt.{BitAt}
use Rattle.ice_chip.specs.declared.rows.TileKind.{TileKind}
use Rattle.ice_chip.specs.declared.rows.Pad.{Pad}
use Rattle.ice_chip.specs.declared.rows.TileLine.{TileLine}
use Rattle.std.specs.Map.{lookup}
pub use Rattle.ice_base.specs.Places.{same_tile}
use Rattle.ice_chip.specs.declared.rows.TileKind.TheVariants.{Io, Logic}

-- a name of the configuration bits of all tiles of a kind
pub record FunctionRow : Type 0 where
  pub kind : TileKind
  pub name : List ℕ
  pub bits : List BitAt
  pub line : ℕ

-- a wire has the name at the place
pub record WireName : Type 0 where
  pub wire : ℕ
  pub tile : TileAt
  pub name : List ℕ
  pub line : ℕ

-- with these values of its group's bits, the group's wire takes the value of the source
pub record SwitchRow : Type 0 where
  pub values : List Bool
  pub source : ℕ
  pub line : ℕ

-- a group of switches into one wire, and the number of its first row
pub record SwitchGroup : Type 0 where
  pub tile : TileAt
  pub wire : ℕ
  pub bits : List BitAt
  pub first : ℕ
  pub rows : List SwitchRow
  pub line : ℕ

-- the pad of each pin, and the different pads
pub record PackageRows : Type 0 where
  pub name : List ℕ
  pub pins : List (List ℕ × Pad)
  pub pads : List Pad

-- a database
pub record Parts : Type 0 where
  pub width : ℕ
  pub height : ℕ
  pub wires : ℕ
  pub tiles : List (TileAt × TileLine)
  pub functions : List FunctionRow
  pub names : List WireName
  pub groups : List SwitchGroup
  pub packages : List PackageRows
  pub gbufin : List (TileAt × ℕ)
  pub gbufpin : List (Pad × ℕ)
  -- the extra bit that puts the level of its pad on a global, by the global's number
  pub padin : List (ℕ × (ℕ × ℕ × ℕ))
  pub ieren : List (Pad × Pad)
  pub colbuf : List (TileAt × TileAt)

-- a database without rows
abbrev pub no_parts : ℕ → ℕ → ℕ → Parts
no_parts width height wires = record {
  width = width;
  height = height;
  wires = wires;
  tiles = [];
  functions = [];
  names = [];
  groups = [];
  packages = [];
  gbufin = [];
  gbufpin = [];
  padin = [];
  ieren = [];
  colbuf = [];
}

abbrev pub same_pad : Pad → Pad → Bool
same_pad a b = same_tile a.tile b.tile && (a.pio == b.pio)

-- the columns of a tile's bits, which have 16 rows
abbrev pub columns : TileKind → ℕ
columns Io = 18
columns Logic = 54
columns memory = 42

-- what is known of the tile at a place
abbrev pub tile_known : List (TileAt × TileLine) → TileAt → Option TileLine
tile_known tiles tile = lookup (same_tile tile) tiles
