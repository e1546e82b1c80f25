-- The joined lines of a text have words alone.
use Rattle.std.proofs.Common.{◌≡◌, ℕ, zero, suc, ◌<◌, Bool, true, false, Option, None, Some, List, [], ◌∷◌, length, drop, filter, nat_lt, refl, if◌then◌else◌, rules, tests}
use Rattle.std.specs.List.{AllByRecursion}
use Rattle.ice_base.specs.Text.{onto_first, pieces, words, ends_word, lines, numbered, begins_with, uncommented}
use Rattle.ice_base.specs.Lines.{IsWord}
use Rattle.ice_base.proofs.TextLines.{all_append}
use Rattle.ice_blif.specs.JoinedLines.{FilledLine, goes_on, plain_by, plain, first_words, with_next, later_joined, joined, fill, filled}
use Rattle.ice_blif.specs.Continued.{continued}

-- ---- lists

pub rec_drop : {X : Type 0} (P : X → Type 0) (n : ℕ) (xs : List X) → AllByRecursion P xs → AllByRecursion P (drop n xs)
rec_drop P zero xs all = all
rec_drop P (suc n) [] all = tt
rec_drop P (suc n) (x ∷ xs) all = rec_drop P n xs all.1

-- ---- the words of a line
-- no byte ends a word
abbrev pub IsWhole : List ℕ → Type 0
IsWhole bytes = AllByRecursion (λ b. ends_word b ≡ false) bytes

abbrev pub AreWords : List (List ℕ) → Type 0
AreWords ws = AllByRecursion IsWord ws

onto_whole : (b : ℕ) (ps : List (List ℕ)) → ends_word b ≡ false → AllByRecursion IsWhole ps → AllByRecursion IsWhole (onto_first b ps)
onto_whole b [] e all = ((e, tt), tt)
onto_whole b (p ∷ ps) e all = ((e, all.0), all.1)

pieces_whole : (bytes : List ℕ) → AllByRecursion IsWhole (pieces bytes)
unfolding pieces
pieces_whole [] = (tt, tt)
pieces_whole (b ∷ bytes) = by (ends_word b) refl (pieces_whole bytes)
  where
    by : (ends : Bool) → ends_word b ≡ ends → AllByRecursion IsWhole (pieces bytes) → AllByRecursion IsWhole (if ends then [] ∷ pieces bytes else onto_first b (pieces bytes))
    by true e all = (tt, all)
    by false e all = onto_whole b (pieces bytes) e all

filled_words : (ps : List (List ℕ)) → AllByRecursion IsWhole ps → AreWords (filter (λ piece. nat_lt 0 (length piece)) ps)
filled_words [] all = tt
filled_words (p ∷ ps) all = by (nat_lt 0 (length p)) refl (filled_words ps all.1)
  where
    by : (some : Bool) → nat_lt 0 (length p) ≡ some → AreWords (filter (λ piece. nat_lt 0 (length piece)) ps)
        → AreWords (if some then p ∷ filter (λ piece. nat_lt 0 (length piece)) ps else filter (λ piece. nat_lt 0 (length piece)) ps)
    by true e rest = let some : 0 < length p = search (rules, tests) in ((some, all.0), rest)
    by false e rest = rest

pub line_words : (line : List ℕ) → AreWords (words line)
unfolding words
line_words line = filled_words (pieces line) (pieces_whole line)

uncommented_words : (ws : List (List ℕ)) → AreWords ws → AreWords (uncommented ws)
uncommented_words [] all = tt
uncommented_words (w ∷ ws) all = by (begins_with 35 w) (uncommented_words ws all.1)
  where
    by : (comment : Bool) → AreWords (uncommented ws) → AreWords (if comment then [] else w ∷ uncommented ws)
    by true rest = tt
    by false rest = (all.0, rest)

plain_words : (line : List ℕ) (front : Option (List ℕ)) → AreWords (plain_by line front)
plain_words line None = uncommented_words (words line) (line_words line)
plain_words line (Some front) = line_words front

-- ---- joined lines
abbrev HasWords : ℕ × List (List ℕ) → Type 0
HasWords l = AreWords l.1

first_have : (ls : List (ℕ × List (List ℕ))) → AllByRecursion HasWords ls → AreWords (first_words ls)
first_have [] all = tt
first_have (l ∷ ls) all = all.0

next_have : (on : Bool) (ws : List (List ℕ)) (ls : List (ℕ × List (List ℕ))) → AreWords ws → AllByRecursion HasWords ls → AreWords (with_next on ws ls)
next_have false ws ls words all = words
next_have true ws ls words all = all_append IsWord ws (first_words ls) words (first_have ls all)

behind_have : (on : Bool) (ls : List (ℕ × List (List ℕ))) → AllByRecursion HasWords ls → AllByRecursion HasWords (later_joined on ls)
behind_have false ls all = all
behind_have true [] all = tt
behind_have true (l ∷ ls) all = all.1

joined_have : (ls : List (ℕ × List ℕ)) → AllByRecursion HasWords (joined ls)
joined_have [] = tt
joined_have (l ∷ ls) =
    let rest = joined_have ls in
    (next_have (goes_on l.1) (plain l.1) (joined ls) (plain_words l.1 (continued l.1)) rest, behind_have (goes_on l.1) (joined ls) rest)

-- the words of a line are words
pub record IsWordLine (l : FilledLine) : Type 0 where
  pub first : IsWord l.first
  pub others : AreWords l.others

fill_have : (n : ℕ) (ws : List (List ℕ)) (ls : List FilledLine) → AreWords ws → AllByRecursion IsWordLine ls → AllByRecursion IsWordLine (fill n ws ls)
fill_have n [] ls words all = all
fill_have n (w ∷ ws) ls words all = (record { first = words.0; others = words.1 }, all)

filled_have : (ls : List (ℕ × List (List ℕ))) → AllByRecursion HasWords ls → AllByRecursion IsWordLine (filled ls)
filled_have [] all = tt
filled_have (l ∷ ls) all = fill_have l.0 l.1 (filled ls) all.0 (filled_have ls all.1)

-- the lines of a text
pub text_lines : (text : List ℕ) → AllByRecursion IsWordLine (filled (joined (numbered 1 (lines text))))
text_lines text = filled_have (joined (numbered 1 (lines text))) (joined_have (numbered 1 (lines text)))
