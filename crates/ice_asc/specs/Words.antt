-- What the words of a line write: headings, digits of bits, places of tiles, extra bits.
use Rattle.std.specs.Prelude.{ℕ, ◌==◌, ◌&&◌, Bool, Option, None, Some, List, [], ◌∷◌, length, nat_lt, option_map, if◌then◌else◌, codes}
use Rattle.std.specs.Option.{option_and_then}
use Rattle.ice_base.specs.Places.{values_in}
use Rattle.ice_base.specs.Text.{number_in}
use Rattle.ice_base.specs.declared.number.TileAt.{TileAt}
use Rattle.ice_chip.specs.declared.rows.TileKind.{TileKind}
use Rattle.ice_chip.specs.declared.rows.TileKind.TheVariants.{Io, Logic, RamBottom, RamTop}

-- the bits of as many digits as there are columns
abbrev pub bits_of_digits : ℕ → List ℕ → Option (List Bool)
bits_of_digits columns digits = if length digits == columns then values_in digits else None

-- the row that the words of a line write: one word of digits
abbrev pub row_of_words : ℕ → List ℕ → List (List ℕ) → Option (List Bool)
row_of_words columns w [] = bits_of_digits columns w
row_of_words columns w (v ∷ ws) = None

-- the place of a tile: both numbers are below 65,536
abbrev pub tile_below : ℕ → ℕ → Option TileAt
tile_below x y = if nat_lt x 65536 && nat_lt y 65536 then Some (record { x = x; y = y }) else None

-- the place that two words write
abbrev pub tile_of_words : List (List ℕ) → Option TileAt
tile_of_words (x ∷ y ∷ []) = option_and_then (λ a. option_and_then (tile_below a) (number_in y)) (number_in x)
tile_of_words ws = None

abbrev pub extra_bit : ℕ → ℕ → ℕ → ℕ × ℕ × ℕ
extra_bit bank column row = (bank, column, row)

-- the extra bit that three words write: its bank, column and row
abbrev pub extra_of_words : List (List ℕ) → Option (ℕ × ℕ × ℕ)
extra_of_words (b ∷ x ∷ y ∷ []) =
    option_and_then (λ bank. option_and_then (λ column. option_map (extra_bit bank column) (number_in y)) (number_in x)) (number_in b)
extra_of_words ws = None

-- the heading of the tiles of a kind
abbrev pub heading_of_kind : TileKind → List ℕ
heading_of_kind Io = codes ".io_tile"
heading_of_kind Logic = codes ".logic_tile"
heading_of_kind RamBottom = codes ".ramb_tile"
heading_of_kind RamTop = codes ".ramt_tile"
