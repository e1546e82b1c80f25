-- Where a database says a thing. Of several rows that say it the first counts.
use Rattle.std.specs.Prelude.{ℕ, ◌==◌, ◌&&◌, Bool, true, false, Option, None, Some, List, map, filter, find, is_some, option_map, bytes_eq, nat_eq}
use Rattle.std.specs.Map.{lookup}
use Rattle.ice_base.specs.declared.number.TileAt.{TileAt}
use Rattle.ice_chip.specs.Database.{Parts, WireName, PackageRows, FunctionRow, same_tile, same_pad, tile_known}
use Rattle.ice_chip.specs.Functions.{same_kind, has_column_buffers}
use Rattle.ice_chip.specs.declared.rows.Pad.{Pad}
use Rattle.ice_chip.specs.declared.rows.TileKind.{TileKind}
use Rattle.ice_chip.specs.declared.rows.TileKind.TheVariants.{Io}
use Rattle.ice_chip.specs.declared.rows.TileLine.{TileLine}
use Rattle.ice_chip.specs.declared.placed.PlacedName.{PlacedName}

abbrev pub kind_at : Parts → TileAt → Option TileKind
kind_at parts tile = option_map (λ known. known.kind) (tile_known parts.tiles tile)

-- ---- names; one at a place without a tile has no effect
abbrev pub same_placed : PlacedName → PlacedName → Bool
same_placed a b = same_tile a.tile b.tile && bytes_eq a.name b.name

abbrev pub placed : WireName → PlacedName
placed n = record { tile = n.tile; name = n.name }

abbrev pub is_placed : List (TileAt × TileLine) → WireName → Bool
is_placed tiles n = is_some (tile_known tiles n.tile)

abbrev pub placed_names : Parts → List WireName
placed_names parts = filter (is_placed parts.tiles) parts.names

abbrev pub names_of : Parts → ℕ → List PlacedName
names_of parts wire = map placed (filter (λ n. n.wire == wire) (placed_names parts))

abbrev pub placed_at : TileAt → List ℕ → PlacedName
placed_at tile name = record { tile = tile; name = name }

abbrev pub placed_wire : WireName → PlacedName × ℕ
placed_wire n = (placed n, n.wire)

abbrev pub wire_named : Parts → TileAt → List ℕ → Option ℕ
wire_named parts tile name = lookup (same_placed (placed_at tile name)) (map placed_wire (placed_names parts))

-- ---- packages
abbrev pub package_of : Parts → List ℕ → Option PackageRows
package_of parts name = find (λ p. bytes_eq p.name name) parts.packages

-- ---- globals and input enables
abbrev pub global_tile : TileAt × ℕ → ℕ × TileAt
global_tile row = (row.1, row.0)

abbrev pub global_of : Parts → ℕ → Option TileAt
global_of parts n = lookup (nat_eq n) (map global_tile parts.gbufin)

abbrev pub fed_pad : Pad × ℕ → ℕ × Pad
fed_pad row = (row.1, row.0)

-- the pad that can feed a global directly
abbrev pub gbufpin_of : Parts → ℕ → Option Pad
gbufpin_of parts n = lookup (nat_eq n) (map fed_pad parts.gbufpin)

-- the extra bit that puts the level of that pad on the global
abbrev pub padin_of : Parts → ℕ → Option (ℕ × ℕ × ℕ)
padin_of parts n = lookup (nat_eq n) parts.padin

abbrev pub is_io_kind : TileKind → Bool
is_io_kind Io = true
is_io_kind kind = false

abbrev pub is_io : Option TileLine → Bool
is_io None = false
is_io (Some known) = is_io_kind known.kind

-- a row whose enable has no IO tile counts as none
abbrev pub enable_counts : List (TileAt × TileLine) → Pad × Pad → Bool
enable_counts tiles row = is_io (tile_known tiles row.1.tile)

abbrev pub ieren_of : Parts → Pad → Option Pad
ieren_of parts pad = lookup (same_pad pad) (filter (enable_counts parts.tiles) parts.ieren)

-- ---- column buffers
abbrev pub holds_buffers : List FunctionRow → Option TileLine → Bool
holds_buffers functions None = false
holds_buffers functions (Some known) = has_column_buffers known.kind functions

-- a row whose source has no tile, or one without column buffers, counts as none
abbrev pub buffer_counts : List (TileAt × TileLine) → List FunctionRow → TileAt × TileAt → Bool
buffer_counts tiles functions row = holds_buffers functions (tile_known tiles row.0)

abbrev pub served_tile : TileAt × TileAt → TileAt × TileAt
served_tile row = (row.1, row.0)

abbrev pub colbuf_of : Parts → TileAt → Option TileAt
colbuf_of parts tile = lookup (same_tile tile) (map served_tile (filter (buffer_counts parts.tiles parts.functions) parts.colbuf))

-- ---- functions
abbrev pub is_function : TileKind → List ℕ → FunctionRow → Bool
is_function kind name f = same_kind f.kind kind && bytes_eq f.name name

abbrev pub function_of : Parts → TileKind → List ℕ → Option FunctionRow
function_of parts kind name = find (is_function kind name) parts.functions
