-- The words of the lines of a text are words.
use Rattle.std.proofs.Common.{◌≡◌, ℕ, ◌<◌, Bool, true, false, cond, List, [], ◌∷◌, length, filter, refl, sym, subst, rules, tests}
use Rattle.std.specs.List.{AllByRecursion}
use Rattle.ice_base.specs.Text.{onto_first, pieces, words, ends_word, begins_with, uncommented, with_words, plain_lines}
use Rattle.ice_base.specs.Lines.{IsWord}
use Rattle.ice_base.proofs.Cuts.{some_bytes, piece_step, piece_end, no_pieces, words_are}
use Rattle.ice_base.proofs.TextLaws.{GoesOn}

abbrev pub AreWords : List (List ℕ) → Type 0
AreWords ws = AllByRecursion (λ (w : List ℕ). IsWord w) ws

-- in none of them a byte ends a word
abbrev AllGoOn : List (List ℕ) → Type 0
AllGoOn ps = AllByRecursion GoesOn ps

onto_goes_on : (b : ℕ) (ps : List (List ℕ)) → ends_word b ≡ false → AllGoOn ps → AllGoOn (onto_first b ps)
onto_goes_on b [] e all = ((e, tt), tt)
onto_goes_on b (p ∷ ps) e all = ((e, all.0), all.1)

pieces_go_on : (bytes : List ℕ) → AllGoOn (pieces bytes)
pieces_go_on [] = subst AllGoOn (sym no_pieces) (tt, tt)
pieces_go_on (b ∷ bytes) = by (ends_word b) refl (pieces_go_on bytes)
  where
    by : (test : Bool) → ends_word b ≡ test → AllGoOn (pieces bytes) → AllGoOn (pieces (b ∷ bytes))
    by true e rest = subst AllGoOn (sym (piece_end b bytes e)) (tt, rest)
    by false e rest = subst AllGoOn (sym (piece_step b bytes e)) (onto_goes_on b (pieces bytes) e rest)

some_are_words : (ps : List (List ℕ)) → AllGoOn ps → AreWords (filter some_bytes ps)
some_are_words [] all = tt
some_are_words (p ∷ ps) all = by (some_bytes p) refl (some_are_words ps all.1)
  where
    by : (test : Bool) → some_bytes p ≡ test → AreWords (filter some_bytes ps) → AreWords (cond test (p ∷ filter some_bytes ps) (filter some_bytes ps))
    by true e rest = let some : 0 < length p = search (rules, tests) in ((some, all.0), rest)
    by false e rest = rest

words_good : (bytes : List ℕ) → AreWords (words bytes)
words_good bytes = subst AreWords (sym (words_are bytes)) (some_are_words (pieces bytes) (pieces_go_on bytes))

uncommented_good : (ws : List (List ℕ)) → AreWords ws → AreWords (uncommented ws)
uncommented_good [] all = tt
uncommented_good (w ∷ ws) all = by (begins_with 35 w) (uncommented_good ws all.1)
  where
    by : (test : Bool) → AreWords (uncommented ws) → AreWords (cond test [] (w ∷ uncommented ws))
    by true rest = tt
    by false rest = (all.0, rest)

-- the words of each of these lines are words
abbrev pub AreLines : List (ℕ × List (List ℕ)) → Type 0
AreLines ls = AllByRecursion (λ (line : ℕ × List (List ℕ)). AreWords line.1) ls

pub lines_good : (ls : List (ℕ × List ℕ)) → AreLines (plain_lines ls)
lines_good [] = tt
lines_good (l ∷ ls) = by (uncommented (words l.1)) (uncommented_good (words l.1) (words_good l.1)) (lines_good ls)
  where
    by : (ws : List (List ℕ)) → AreWords ws → AreLines (plain_lines ls) → AreLines (with_words l.0 ws (plain_lines ls))
    by [] good rest = rest
    by (w ∷ ws) good rest = (good, rest)
