-- Lines, words and numbers of a text. A text is a list of bytes.
use Rattle.std.specs.Prelude.{ℕ, ◌+◌, ◌-◌, ◌^◌, min, Bool, false, ◌||◌, List, [], ◌∷◌, length, filter, nat_lt, ◌==◌, if◌then◌else◌, ◌*◌, ◌&&◌, nat_le, Option, Some, None}
use Rattle.std.specs.Option.{option_and_then}
use Rattle.std.specs.Str.{all_ascii_digits}

-- the byte joins the first piece
abbrev pub onto_first : ℕ → List (List ℕ) → List (List ℕ)
onto_first b [] = (b ∷ []) ∷ []
onto_first b (piece ∷ pieces) = (b ∷ piece) ∷ pieces

-- the lines: each ends at a line feed, or at the end of the text. An empty rest after the last line feed is no line
unfoldable pub lines : List ℕ → List (List ℕ)
lines [] = []
lines (b ∷ bytes) = if b == 10 then [] ∷ lines bytes else onto_first b (lines bytes)

-- the number of the line after line n: every line beyond the last number has that number too
abbrev pub next_number : ℕ → ℕ
next_number n = min (n + 1) (2 ^ 32 - 1)

-- the lines with their numbers, the first of them n
abbrev pub numbered : ℕ → List (List ℕ) → List (ℕ × List ℕ)
numbered n [] = []
numbered n (line ∷ lines) = (n, line) ∷ numbered (next_number n) lines

-- space, tab and carriage return are blanks, and no other byte is
abbrev pub is_blank : ℕ → Bool
is_blank b = (b == 32) || (b == 9) || (b == 13)

-- a word ends before a blank, and at the end of its line
abbrev pub ends_word : ℕ → Bool
ends_word b = is_blank b || (b == 10)

-- the pieces between the bytes that end words, the empty ones too
unfoldable pub pieces : List ℕ → List (List ℕ)
pieces [] = [] ∷ []
pieces (b ∷ bytes) = if ends_word b then [] ∷ pieces bytes else onto_first b (pieces bytes)

-- the words of all lines: the pieces that aren't empty
unfoldable pub words : List ℕ → List (List ℕ)
words bytes = filter (λ piece. nat_lt 0 (length piece)) (pieces bytes)

-- ---- comments
-- the word begins with this byte
abbrev pub begins_with : ℕ → List ℕ → Bool
begins_with b [] = false
begins_with b (c ∷ word) = c == b

-- the words of a line before its comment; 35 is `#`
abbrev pub uncommented : List (List ℕ) → List (List ℕ)
uncommented [] = []
uncommented (w ∷ ws) = if begins_with 35 w then [] else w ∷ uncommented ws

-- ---- lines that have words
-- the number and the words of a line, before the others; a line without words is left out
abbrev pub with_words : ℕ → List (List ℕ) → List (ℕ × List (List ℕ)) → List (ℕ × List (List ℕ))
with_words number [] others = others
with_words number (w ∷ ws) others = (number, w ∷ ws) ∷ others

-- the number and the words of each of these lines that has words before its comment
abbrev pub plain_lines : List (ℕ × List ℕ) → List (ℕ × List (List ℕ))
plain_lines [] = []
plain_lines (line ∷ lines) = with_words line.0 (uncommented (words line.1)) (plain_lines lines)

-- the number that n's digits and one more digit write; 48 is `0`
abbrev pub with_digit : ℕ → ℕ → ℕ
with_digit n digit = n * 10 + (digit - 48)

-- the number that n's digits and these digits write
abbrev pub with_digits : ℕ → List ℕ → ℕ
with_digits n [] = n
with_digits n (digit ∷ digits) = with_digits (with_digit n digit) digits

-- the number that decimal digits write, the greatest place first
abbrev pub decimal_value : List ℕ → ℕ
decimal_value digits = with_digits 0 digits

-- one to ten decimal digits of a value up to 4,294,967,295
abbrev pub is_number : List ℕ → Bool
is_number word = nat_le 1 (length word) && nat_le (length word) 10 && all_ascii_digits word && nat_lt (decimal_value word) (2 ^ 32)

-- the value of a word that is a number, and none of any other word
unfoldable pub number_in : List ℕ → Option ℕ
number_in word = if is_number word then Some (decimal_value word) else None

-- a number below a limit
abbrev pub number_below : ℕ → List ℕ → Option ℕ
number_below limit word = option_and_then (λ n. if nat_lt n limit then Some n else None) (number_in word)
