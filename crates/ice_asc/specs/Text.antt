-- The text that is written for the bits of a chip.
use Rattle.std.specs.Prelude.{ℕ, Bool, List, ◌∷◌, ◌++◌, map, codes, decimal, if◌then◌else◌}
use Rattle.std.specs.List.{flat_map, range_with_len}
use Rattle.ice_base.specs.declared.bit.BitAt.{BitAt}
use Rattle.ice_base.specs.Lines.{text_of_lines}
use Rattle.ice_chip.specs.Database.{Parts, columns}
use Rattle.ice_chip.specs.Listings.{tile_of}
use Rattle.ice_base.specs.declared.number.TileAt.{TileAt}
use Rattle.ice_chip.specs.declared.tile.Tile.{Tile}
use Rattle.ice_bits.specs.Configuration.{Configuration, bits_of}
use Rattle.ice_asc.specs.Words.{heading_of_kind}
use Rattle.ice_asc.specs.Hex.{row_digits}

-- 48 is `0`, 49 is `1`
abbrev pub digit_of_bit : Bool → ℕ
digit_of_bit bit = if bit then 49 else 48

abbrev pub bit_at_place : ℕ → ℕ → BitAt
bit_at_place row col = record { row = row; col = col }

-- the digits of a row of a tile with these bits, one for each column
abbrev pub row_line : (BitAt → Bool) → ℕ → ℕ → List ℕ
row_line bits width row = map (λ col. digit_of_bit (bits (bit_at_place row col))) (range_with_len 0 width)

-- a word, a space, and the words behind it
abbrev pub spaced : List ℕ → List ℕ → List ℕ
spaced word words = word ++ 32 ∷ words

abbrev pub tile_heading : Tile → List ℕ
tile_heading tile = spaced (heading_of_kind tile.kind) (spaced (decimal tile.at.x) (decimal tile.at.y))

-- the heading of a tile, and its sixteen rows
abbrev pub tile_lines : Configuration → Tile → List (List ℕ)
tile_lines k tile = tile_heading tile ∷ map (row_line (bits_of k tile.at) (columns tile.kind)) (range_with_len 0 16)

abbrev pub content_heading : TileAt → List ℕ
content_heading t = spaced (codes ".ram_data") (spaced (decimal t.x) (decimal t.y))

-- the heading of a block RAM, and the sixteen rows of its words
abbrev pub content_lines : TileAt × List (List Bool) → List (List ℕ)
content_lines content = content_heading content.0 ∷ map (row_digits content.1) (range_with_len 0 16)

abbrev pub extra_line : ℕ × ℕ × ℕ → List ℕ
extra_line extra = spaced (codes ".extra_bit") (spaced (decimal extra.0) (spaced (decimal extra.1) (decimal extra.2)))

-- a comment and the device, the tiles of the chip in order, the words of block RAMs in order, and the extra bits in order
abbrev pub asc_lines : Parts → Configuration → List (List ℕ)
asc_lines parts k =
    codes ".comment" ∷ codes "placed and routed" ∷ codes ".device 1k" ∷ (flat_map (tile_lines k) (map tile_of parts.tiles) ++ (flat_map content_lines k.contents ++ map extra_line k.extras))

-- the text that is written for the bits of a chip
abbrev pub asc_text : Parts → Configuration → List ℕ
asc_text parts k = text_of_lines (asc_lines parts k)
