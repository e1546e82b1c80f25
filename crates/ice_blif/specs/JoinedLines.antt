-- Joined lines: a line whose last byte before blanks is a backslash outside a comment goes on in the next line.
use Rattle.std.specs.Prelude.{ℕ, Bool, true, false, List, [], ◌∷◌, ◌++◌, Option, Some, None}
use Rattle.ice_base.specs.Text.{words, uncommented}
use Rattle.ice_blif.specs.Continued.{continued}

abbrev pub goes_on_by : Option (List ℕ) → Bool
goes_on_by None = false
goes_on_by (Some front) = true

-- the line goes on in the next one
abbrev pub goes_on : List ℕ → Bool
goes_on line = goes_on_by (continued line)

abbrev pub plain_by : List ℕ → Option (List ℕ) → List (List ℕ)
plain_by line None = uncommented (words line)
plain_by line (Some front) = words front

-- the words of a line by itself, before its comment; the backslash counts as a blank
abbrev pub plain : List ℕ → List (List ℕ)
plain line = plain_by line (continued line)

abbrev pub first_words : List (ℕ × List (List ℕ)) → List (List ℕ)
first_words [] = []
first_words (l ∷ ls) = l.1

-- words, and those of the joined line behind them where the line goes on
abbrev pub with_next : Bool → List (List ℕ) → List (ℕ × List (List ℕ)) → List (List ℕ)
with_next false ws ls = ws
with_next true ws ls = ws ++ first_words ls

abbrev pub rest_of : List (ℕ × List (List ℕ)) → List (ℕ × List (List ℕ))
rest_of [] = []
rest_of (l ∷ ls) = ls

-- the joined lines that are left behind a line
abbrev pub later_joined : Bool → List (ℕ × List (List ℕ)) → List (ℕ × List (List ℕ))
later_joined false ls = ls
later_joined true ls = rest_of ls

-- the joined lines of numbered lines: each has the number of its first line, and its words. The last may go on at the end of the text
abbrev pub joined : List (ℕ × List ℕ) → List (ℕ × List (List ℕ))
joined [] = []
joined (l ∷ ls) = (l.0, with_next (goes_on l.1) (plain l.1) (joined ls)) ∷ later_joined (goes_on l.1) (joined ls)

-- a joined line that has a word: its number, its first word and the others
pub record FilledLine : Type 0 where
  pub number : ℕ
  pub first : List ℕ
  pub others : List (List ℕ)

abbrev pub fill : ℕ → List (List ℕ) → List FilledLine → List FilledLine
fill n [] ls = ls
fill n (w ∷ ws) ls = (record { number = n; first = w; others = ws }) ∷ ls

-- the joined lines that have a word
abbrev pub filled : List (ℕ × List (List ℕ)) → List FilledLine
filled [] = []
filled (l ∷ ls) = fill l.0 l.1 (filled ls)

-- the number of the last of some lines, or n without any
abbrev pub last_number : ℕ → List (ℕ × List ℕ) → ℕ
last_number n [] = n
last_number n (l ∷ ls) = last_number l.0 ls
