-- Which tiles the sample chip has, and how many wires each has.
use Rattle.std.specs.Prelude.{ℕ, ◌+◌, ◌==◌, ◌&&◌, ◌||◌, Bool, true, false, nat_lt, Option, Some, None, if◌then◌else◌}
use Rattle.ice_base.specs.declared.number.TileAt.{TileAt}
use Rattle.ice_sample.specs.declared.grid.TileKind.{TileKind}
use Rattle.ice_sample.specs.declared.grid.TileKind.TheVariants.{Io, Logic}

-- the place is the first or the last of so many
abbrev pub is_end : ℕ → ℕ → Bool
is_end count place = place == 0 || place + 1 == count

-- The kind of tile, by whether its column is at an end and whether its row is: corners have no tile, the rest of the border
-- has IO tiles, and inside it are logic tiles.
abbrev pub kind_by_ends : Bool → Bool → Option TileKind
kind_by_ends true true = None
kind_by_ends true false = Some Io
kind_by_ends false true = Some Io
kind_by_ends false false = Some Logic

-- the kind of the tile at a place of a chip of this width and height, if there is one
abbrev pub kind_at : ℕ → ℕ → TileAt → Option TileKind
kind_at w h t = if nat_lt t.x w && nat_lt t.y h then kind_by_ends (is_end w t.x) (is_end h t.y) else None

-- how many wires of its own a place has
abbrev pub wires_of : Option TileKind → ℕ
wires_of None = 0
wires_of (Some Io) = 71
wires_of (Some Logic) = 116
