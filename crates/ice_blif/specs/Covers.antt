-- Covers: rows of a truth table.
use Rattle.std.specs.Prelude.{ℕ, ◌+◌, ◌-◌, ◌*◌, ◌/◌, ◌%◌, ◌^◌, Bool, true, false, ◌&&◌, ◌||◌, ◌==◌, List, [], ◌∷◌, Option, Some, None, if◌then◌else◌, codes, bytes_eq}

-- the row has the levels of that number, the first input the lowest digit: each input's digit is its level or `-` (48 is `0`, 45 is `-`)
abbrev pub covers : List ℕ → ℕ → Bool
covers [] j = true
covers (digit ∷ digits) j = (digit == 45 || digit == 48 + j % 2) && covers digits (j / 2)

-- a bit as a number
abbrev pub bit : Bool → ℕ
bit false = 0
bit true = 1

-- four bits of a row's table, from bit j on
abbrev pub four_bits : List ℕ → ℕ → ℕ
four_bits row j = bit (covers row (j + 3)) * 8 + bit (covers row (j + 2)) * 4 + bit (covers row (j + 1)) * 2 + bit (covers row j)

-- the table of a row, of sixteen bits: bit j says whether the row has the levels with the number j. Inputs that the row lacks may have any level
abbrev pub row_table : List ℕ → ℕ
row_table row = four_bits row 12 * 4096 + four_bits row 8 * 256 + four_bits row 4 * 16 + four_bits row 0

-- the level that a row gives
abbrev pub level_of_word : List ℕ → Option Bool
level_of_word word = if bytes_eq word (codes "0") then Some false else (if bytes_eq word (codes "1") then Some true else None)

-- the table of a cover of so many inputs by the level that its rows give: the rows are the on-set or the off-set, and without rows all is 0
abbrev pub table_of : ℕ → Option Bool → ℕ → ℕ
table_of width None covered = 0
table_of width (Some true) covered = covered % 2 ^ (2 ^ width)
table_of width (Some false) covered = (65535 - covered) % 2 ^ (2 ^ width)
