-- Which wires' groups have a bit of a tile.
use Rattle.std.specs.Prelude.{◌≡◌, ℕ, ◌+◌, ◌*◌, ◌<◌, ◌==◌, nat_lt, Bool, false, not, ◌&&◌, ◌||◌, Option, None, Some, List, [], length, map, slice_index_or, slice_set, Vec, if◌then◌else◌}
use Rattle.std.specs.List.{position_or_len}
use Rattle.std.specs.declared.alloc.Global.{Global}
use Rattle.ice_base.specs.declared.number.TileAt.{TileAt}
use Rattle.ice_base.specs.declared.bit.BitAt.{BitAt}
use Rattle.ice_chip.specs.Database.{SwitchGroup, same_tile}
use Rattle.ice_base.specs.Places.{same_place}
use Rattle.ice_bits_rows.specs.Bundles.{has_bit, is_of_other}
use Rattle.ice_bits_rows.specs.declared.owners.Owner.{Owner}
use Rattle.ice_bits_rows.specs.declared.owners.Owners.{Owners}

abbrev pub same_key : TileAt → BitAt → TileAt → BitAt → Bool
same_key t b tile bit = same_tile t tile && same_place b bit

-- ---- blocks
-- some tile may have the bit: 16 rows of 64
abbrev pub is_within : BitAt → Bool
is_within b = nat_lt b.row 16 && nat_lt b.col 64

-- the place of the bit in a block
abbrev pub place_of : BitAt → ℕ
place_of b = b.row * 64 + b.col

-- what is held of a bit in the block of its tile
abbrev pub owner_in : List (Option Owner) → BitAt → Option Owner
owner_in block b = if is_within b then slice_index_or block (place_of b) None else None

abbrev pub items_of : List (Vec (Option Owner) Global) → List (List (Option Owner))
items_of blocks = map (λ block. block.items) blocks

-- the block of a tile, which is empty where the tile isn't there
abbrev pub block_among : List TileAt → List (List (Option Owner)) → TileAt → List (Option Owner)
block_among tiles blocks tile = slice_index_or blocks (position_or_len (same_tile tile) tiles) []

abbrev pub block_at : Owners → TileAt → List (Option Owner)
block_at o tile = block_among o.tiles.keys (items_of o.blocks.items) tile

-- what is held of a bit of a tile
abbrev pub owner_among : List TileAt → List (List (Option Owner)) → TileAt → BitAt → Option Owner
owner_among tiles blocks tile bit = owner_in (block_among tiles blocks tile) bit

abbrev pub owner_at : Owners → TileAt → BitAt → Option Owner
owner_at o tile bit = owner_among o.tiles.keys (items_of o.blocks.items) tile bit

-- each tile has its block, and each block a place for each bit
pub record AreEven (tiles : List TileAt) (blocks : List (List (Option Owner))) : Type 0 where
  pub count : length blocks ≡ length tiles
  pub full : (i : ℕ) → i < length blocks → length (slice_index_or blocks i []) ≡ 1024

-- ---- wires
-- with a group more that has the bit, into this wire
abbrev pub owner_with : ℕ → Option Owner → Owner
owner_with wire None = record { wire = record { 0 = wire }; several = false }
owner_with wire (Some owner) = record { wire = owner.wire; several = owner.several || not (owner.wire.0 == wire) }

-- the block with this in the place of what was held of the bit
abbrev pub with_owner : List (Option Owner) → BitAt → ℕ → List (Option Owner)
with_owner block bit wire = slice_set block (place_of bit) (Some (owner_with wire (slice_index_or block (place_of bit) None)))

-- a group into another wire than this one has the bit
abbrev pub is_other : ℕ → Option Owner → Bool
is_other wire None = false
is_other wire (Some owner) = owner.several || not (owner.wire.0 == wire)

-- a group of another bundle of the tile has the bit, the group at hand or one that was noted before
abbrev pub holds_more : SwitchGroup → TileAt → ℕ → BitAt → Bool → Bool
holds_more g tile wire b before = before || (same_tile g.tile tile && not (g.wire == wire) && has_bit g.bits b)

-- a tile's block says of each bit which wires' groups have it
abbrev pub IsBlockOf : List SwitchGroup → TileAt → List (Option Owner) → Type 0
IsBlockOf groups tile block = (b : BitAt) (wire : ℕ) → is_other wire (owner_in block b) ≡ is_of_other groups tile wire b

-- the blocks say so of all tiles
abbrev pub AreOwners : List SwitchGroup → Owners → Type 0
AreOwners groups o = (tile : TileAt) (b : BitAt) (wire : ℕ) → is_other wire (owner_at o tile b) ≡ is_of_other groups tile wire b
