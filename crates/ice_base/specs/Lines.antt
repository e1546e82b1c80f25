-- Texts made of lines, and what may stand in a line.
use Rattle.std.specs.Prelude.{ℕ, ◌+◌, ◌<◌, ◌≡◌, ◌≢◌, false, List, [], ◌∷◌, ◌++◌, length}
use Rattle.std.specs.List.{AllByRecursion, flat_map}
use Rattle.ice_base.specs.Text.{lines, numbered, ends_word, words, plain_lines}

-- the text of these lines, each ended by a line feed
abbrev pub text_of_lines : List (List ℕ) → List ℕ
text_of_lines ls = flat_map (λ (line : List ℕ). line ++ 10 ∷ []) ls

-- the words of each line, line after line; the words of a text are those of its lines (the law `words_by_lines`)
abbrev pub words_of_lines : List (List ℕ) → List (List ℕ)
words_of_lines [] = []
words_of_lines (line ∷ lines) = words line ++ words_of_lines lines

-- what may stand in a line: no line feed
abbrev pub IsLine : List ℕ → Type 0
IsLine bytes = AllByRecursion (λ b. b ≢ 10) bytes

-- a word: one byte or more, none of which ends a word
abbrev pub IsWord : List ℕ → Type 0
IsWord bytes = (0 < length bytes) × AllByRecursion (λ b. ends_word b ≡ false) bytes

-- nothing, or a word stands at the front
abbrev pub StartsWord : List ℕ → Type 0
StartsWord [] = Unit {0}
StartsWord (b ∷ bytes) = ends_word b ≡ false

-- the number and the words of each line of a text that has words before its comment
abbrev pub plain_lines_of : List ℕ → List (ℕ × List (List ℕ))
plain_lines_of text = plain_lines (numbered 1 (lines text))
