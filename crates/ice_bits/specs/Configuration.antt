-- Configuration bits as data, and as a bit for each tile, row and column.
use Rattle.std.specs.Prelude.{ℕ, Bool, false, Option, None, Some, List, [], slice_index_or}
use Rattle.std.specs.Map.{lookup}
use Rattle.ice_base.specs.declared.number.TileAt.{TileAt}
use Rattle.ice_base.specs.declared.bit.BitAt.{BitAt}
pub use Rattle.ice_base.specs.Places.{same_place}
use Rattle.ice_chip.specs.Database.{same_tile}
use Rattle.ice_chip.specs.declared.rows.TileKind.{TileKind}

-- a bit for each tile and place in it
abbrev pub Bits : Type 0
Bits = TileAt → BitAt → Bool

-- the rows of bits of each tile, the kinds of these tiles in the same order, the extra bits in order, and the words that block RAMs hold
-- before the first step, in order: each RAM by its lower tile, each word with its lowest bit first
pub record Configuration : Type 0 where
  pub tiles : List (TileAt × List (List Bool))
  pub kinds : List TileKind
  pub extras : List (ℕ × ℕ × ℕ)
  pub contents : List (TileAt × List (List Bool))

-- ---- one bit
-- the bit at a place of a tile with these rows; 0 where the tile has no such place
abbrev pub bit_in : List (List Bool) → BitAt → Bool
bit_in rows b = slice_index_or (slice_index_or rows b.row []) b.col false

abbrev pub bit_at : Option (List (List Bool)) → BitAt → Bool
bit_at None b = false
bit_at (Some rows) b = bit_in rows b

-- the rows of a tile
abbrev pub rows_at : Configuration → TileAt → Option (List (List Bool))
rows_at k t = lookup (same_tile t) k.tiles

-- the bits of a configuration; 0 where it has no such tile or place
abbrev pub bits_of : Configuration → Bits
bits_of k t b = bit_at (rows_at k t) b
