-- Places of tiles and bits, the names of bits, and their values as digits.
use Rattle.std.specs.Prelude.{ℕ, ◌==◌, ◌&&◌, Bool, true, false, Option, Some, None, List, [], ◌∷◌, map, option_map, if◌then◌else◌}
use Rattle.ice_base.specs.declared.number.TileAt.{TileAt}
use Rattle.ice_base.specs.declared.bit.BitAt.{BitAt}
use Rattle.std.specs.Option.{option_and_then}
use Rattle.ice_base.specs.Lists.{all_known}
use Rattle.ice_base.specs.Text.{number_below}

-- the tile in this column and row
abbrev pub tile_at : ℕ → ℕ → TileAt
tile_at x y = record { x = x; y = y }

-- the bit in this row and column of its tile
abbrev pub bit_place : ℕ → ℕ → BitAt
bit_place row column = record { row = row; col = column }

-- one tile
abbrev pub same_tile : TileAt → TileAt → Bool
same_tile a b = (a.x == b.x) && (a.y == b.y)

-- one place in a tile
abbrev pub same_place : BitAt → BitAt → Bool
same_place a b = (a.row == b.row) && (a.col == b.col)

-- the byte joins the part in front of the cut
abbrev pub onto_front : ℕ → List ℕ × List ℕ → List ℕ × List ℕ
onto_front b cut = (b ∷ cut.0, cut.1)

-- the bytes before the first such byte, and those behind it
abbrev pub cut_at : ℕ → List ℕ → Option (List ℕ × List ℕ)
cut_at b [] = None
cut_at b (c ∷ bytes) = if c == b then Some ([], bytes) else option_map (onto_front c) (cut_at b bytes)

-- the number of the column in `column]`, cut at its `]`, behind which nothing may stand
abbrev pub column_named : ℕ → List ℕ → List ℕ → Option ℕ
column_named columns column [] = number_below columns column
column_named columns column (b ∷ bytes) = None

-- the place in `row[column]`, cut at its first `[`; 93 is `]`
abbrev pub place_named : ℕ → List ℕ → List ℕ → Option BitAt
place_named columns row rest =
    option_and_then (λ row. option_map (bit_place row) (option_and_then (λ cut. column_named columns cut.0 cut.1) (cut_at 93 rest))) (number_below 16 row)

-- the place of the bit that is named `Brow[column]`, among 16 rows and so many columns: 66 is `B`, 91 is `[`
abbrev pub bit_named : ℕ → List ℕ → Option BitAt
bit_named columns [] = None
bit_named columns (b ∷ bytes) = if b == 66 then option_and_then (λ cut. place_named columns cut.0 cut.1) (cut_at 91 bytes) else None

-- the places of the bits with these names
abbrev pub bits_named : ℕ → List (List ℕ) → Option (List BitAt)
bits_named columns names = all_known (map (bit_named columns) names)

-- the value of a digit: 48 is `0`, 49 is `1`
abbrev pub digit_value : ℕ → Option Bool
digit_value b = if b == 48 then Some false else (if b == 49 then Some true else None)

-- the values that these digits write
abbrev pub values_in : List ℕ → Option (List Bool)
values_in digits = all_known (map digit_value digits)
