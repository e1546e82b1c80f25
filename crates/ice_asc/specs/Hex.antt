-- The words of a block RAM as rows of digits: sixteen rows of 64 hexadecimal digits. Row r has the words 16 r to 16 r + 15 as one number,
-- whose bit n is bit n % 16 of word 16 r + n / 16, with its greatest digit first.
use Rattle.std.specs.Prelude.{ℕ, ◌+◌, ◌-◌, ◌*◌, ◌/◌, ◌%◌, ◌^◌, ◌==◌, ◌&&◌, Bool, false, Option, None, Some, List, [], ◌∷◌, length, map, nat_le, nat_lt, slice_index_or, if◌then◌else◌}
use Rattle.std.specs.List.{range_with_len}
use Rattle.ice_base.specs.Lists.{all_known}

-- ---- what digits say
-- `0` to `9`, `a` to `f` and `A` to `F`: 48 to 57, 97 to 102 and 65 to 70
abbrev pub hex_value : ℕ → Option ℕ
hex_value d =
    if nat_le 48 d && nat_lt d 58 then Some (d - 48)
    else (if nat_le 97 d && nat_lt d 103 then Some (d - 87)
    else (if nat_le 65 d && nat_lt d 71 then Some (d - 55)
    else None))

-- bit i of a digit, from the lowest one
abbrev pub digit_bit : ℕ → ℕ → Bool
digit_bit value i = (value / 2 ^ i) % 2 == 1

-- bit n of the number that the digits of these values write
abbrev pub row_bit : List ℕ → ℕ → Bool
row_bit values n = digit_bit (slice_index_or values (63 - n / 4) 0) (n % 4)

-- the word of this number in a row, with its lowest bit first
abbrev pub row_word : List ℕ → ℕ → List Bool
row_word values k = map (λ b. row_bit values (16 * k + b)) (range_with_len 0 16)

unfoldable pub row_words : List ℕ → List (List Bool)
row_words values = map (row_word values) (range_with_len 0 16)

-- the values of as many digits as a row has
abbrev pub values_of_digits : List ℕ → Option (List ℕ)
values_of_digits digits = if length digits == 64 then all_known (map hex_value digits) else None

-- the values that the words of a line write, which are one row of digits
abbrev pub values_of_line : List ℕ → List (List ℕ) → Option (List ℕ)
values_of_line w [] = values_of_digits w
values_of_line w (v ∷ ws) = None

-- ---- what is written
abbrev pub hex_digit : ℕ → ℕ
hex_digit value = if nat_lt value 10 then 48 + value else 87 + value

abbrev pub one_or_zero : Bool → ℕ
one_or_zero bit = if bit then 1 else 0

abbrev pub four_bits : Bool → Bool → Bool → Bool → ℕ
four_bits a b c d = one_or_zero a + 2 * one_or_zero b + 4 * one_or_zero c + 8 * one_or_zero d

-- bit n of all words in a row
abbrev pub word_bit : List (List Bool) → ℕ → Bool
word_bit words n = slice_index_or (slice_index_or words (n / 16) []) (n % 16) false

-- the digit that stands for four bits, from this one on
abbrev pub digit_at : List (List Bool) → ℕ → ℕ
digit_at words n = hex_digit (four_bits (word_bit words n) (word_bit words (n + 1)) (word_bit words (n + 2)) (word_bit words (n + 3)))

-- the digit at a place of a row
abbrev pub row_digit : List (List Bool) → ℕ → ℕ → ℕ
row_digit words row place = digit_at words (256 * row + 4 * (63 - place))

abbrev pub row_digits : List (List Bool) → ℕ → List ℕ
row_digits words row = map (row_digit words row) (range_with_len 0 64)
