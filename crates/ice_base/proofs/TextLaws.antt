-- What lines, words and numbers of a text are, for the readers and writers of texts.
use Rattle.std.proofs.Common.{◌≡◌, ◌≢◌, ℕ, ◌<◌, ◌==◌, ◌^◌, Bool, true, false, List, [], ◌∷◌, ◌++◌, length, filter, Some, refl, sym, ap, ◌∙◌, arith, rules, tests, append-nil, append_assoc}
use Rattle.std.specs.List.{AllByRecursion}
use Rattle.std.specs.Char.{is_ascii_digit}
use Rattle.std.specs.Str.{all_ascii_digits}
use Rattle.std.specs.Fmt.{decimal}
use Rattle.std.proofs.lemmas.Bool.{and_parts}
use Rattle.std.proofs.lemmas.List.Elements.{filter-append}
use Rattle.std.proofs.lemmas.Str.Parse.{IsNumeralModel, numerals_by_fold, tells_all_ascii_digits}
use Rattle.std.proofs.lemmas.Fmt.{digits_decimal, digits_value-decimal, length-decimal-le, decimal_nonempty}
use Rattle.ice_base.specs.Text.{onto_first, lines, pieces, words, ends_word, with_digits, number_in}
use Rattle.ice_base.specs.Lines.{words_of_lines, IsLine, IsWord}
use Rattle.ice_base.proofs.Cuts.{join_front, join_line, join_nothing, join_more, some_bytes, line_step, line_end, no_lines, piece_step, piece_end, words_are, no_pieces, no_words, kept}
use Rattle.ice_base.proofs.Digits.{number_here}

-- ---- lines
-- the empty text has no lines
pub no_lines_left : lines [] ≡ []
no_lines_left = no_lines

-- a line and its line feed
pub first_line : (line rest : List ℕ) → IsLine line → lines (line ++ 10 ∷ rest) ≡ line ∷ lines rest
first_line [] rest h = line_end 10 rest refl
first_line (b ∷ line) rest h = line_step b (line ++ 10 ∷ rest) h.0 ∙ ap (onto_first b) (first_line line rest h.1)

-- a last line without a line feed
pub last_line : (line : List ℕ) → IsLine line → 0 < length line → lines line ≡ line ∷ []
last_line [] h some = absurd (omega arith)
last_line (b ∷ []) h some = line_step b [] h.0 ∙ ap (onto_first b) no_lines
last_line (b ∷ c ∷ line) h some = line_step b (c ∷ line) h.0 ∙ ap (onto_first b) (last_line (c ∷ line) h.1 (omega arith))

-- ---- words
-- the empty text has no words
pub no_words_left : words [] ≡ []
no_words_left = no_words

-- a blank or a line feed in front changes no words
pub blank_first : (b : ℕ) (rest : List ℕ) → ends_word b ≡ true → words (b ∷ rest) ≡ words rest
blank_first b rest ends = words_are (b ∷ rest) ∙ ap (filter some_bytes) (piece_end b rest ends) ∙ sym (words_are rest)

pieces_behind : (word : List ℕ) (b : ℕ) (rest : List ℕ) → AllByRecursion (λ c. ends_word c ≡ false) word → ends_word b ≡ true
    → pieces (word ++ b ∷ rest) ≡ word ∷ pieces rest
pieces_behind [] b rest h ends = piece_end b rest ends
pieces_behind (c ∷ word) b rest h ends = piece_step c (word ++ b ∷ rest) h.0 ∙ ap (onto_first c) (pieces_behind word b rest h.1 ends)

pieces_alone : (word : List ℕ) → AllByRecursion (λ c. ends_word c ≡ false) word → pieces word ≡ word ∷ []
pieces_alone [] h = no_pieces
pieces_alone (c ∷ word) h = piece_step c word h.0 ∙ ap (onto_first c) (pieces_alone word h.1)

-- no byte ends a word
abbrev pub GoesOn : List ℕ → Type 0
GoesOn bytes = AllByRecursion (λ b. ends_word b ≡ false) bytes

-- a word and the blank or line feed behind it
pub first_word : (word : List ℕ) (b : ℕ) (rest : List ℕ) → IsWord word → ends_word b ≡ true → words (word ++ b ∷ rest) ≡ word ∷ words rest
first_word word b rest h ends =
    words_are (word ++ b ∷ rest) ∙ ap (filter some_bytes) (pieces_behind word b rest h.1 ends) ∙ kept word (pieces rest) h.0 ∙ ap (λ x. word ∷ x) (sym (words_are rest))

-- a last word with nothing behind it
pub last_word : (word : List ℕ) → IsWord word → words word ≡ word ∷ []
last_word word h = words_are word ∙ ap (filter some_bytes) (pieces_alone word h.1) ∙ kept word [] h.0

-- ---- the words of a text are the words of its lines
onto_some : (b : ℕ) (ps : List (List ℕ)) → 0 < length (onto_first b ps)
onto_some b [] = omega arith
onto_some b (p ∷ ps) = omega arith

onto_append : (b : ℕ) (ps qs : List (List ℕ)) → 0 < length ps → onto_first b (ps ++ qs) ≡ onto_first b ps ++ qs
onto_append b [] qs some = absurd (omega arith)
onto_append b (p ∷ ps) qs some = refl

pieces_some : (bytes : List ℕ) → 0 < length (pieces bytes)
pieces_some [] = rw no_pieces (omega arith)
pieces_some (b ∷ bytes) = of_test b bytes (ends_word b) refl
  where
    of_test : (b : ℕ) (bytes : List ℕ) (test : Bool) → ends_word b ≡ test → 0 < length (pieces (b ∷ bytes))
    of_test b bytes true e = rw (piece_end b bytes e) (omega arith)
    of_test b bytes false e = rw (piece_step b bytes e) (onto_some b (pieces bytes))

pieces_step : (b : ℕ) (front rest : List ℕ) (test : Bool) → ends_word b ≡ test → pieces (front ++ 10 ∷ rest) ≡ pieces front ++ pieces rest
    → pieces ((b ∷ front) ++ 10 ∷ rest) ≡ pieces (b ∷ front) ++ pieces rest
pieces_step b front rest true e so_far =
    piece_end b (front ++ 10 ∷ rest) e ∙ ap (λ ps. [] ∷ ps) so_far ∙ ap (λ ps. ps ++ pieces rest) (sym (piece_end b front e))
pieces_step b front rest false e so_far =
    piece_step b (front ++ 10 ∷ rest) e ∙ ap (onto_first b) so_far ∙ onto_append b (pieces front) (pieces rest) (pieces_some front)
    ∙ ap (λ ps. ps ++ pieces rest) (sym (piece_step b front e))

pieces_append : (front rest : List ℕ) → pieces (front ++ 10 ∷ rest) ≡ pieces front ++ pieces rest
pieces_append [] rest = piece_end 10 rest refl ∙ ap (λ ps. ps ++ pieces rest) (sym no_pieces)
pieces_append (b ∷ front) rest = pieces_step b front rest (ends_word b) refl (pieces_append front rest)

-- a line feed parts the words in front of it from those behind it
pub words_append : (front rest : List ℕ) → words (front ++ 10 ∷ rest) ≡ words front ++ words rest
words_append front rest =
    words_are (front ++ 10 ∷ rest) ∙ ap (filter some_bytes) (pieces_append front rest) ∙ filter-append some_bytes (pieces front) (pieces rest)
    ∙ ap (λ ws. ws ++ filter some_bytes (pieces rest)) (sym (words_are front)) ∙ ap (λ ws. words front ++ ws) (sym (words_are rest))

all_joined : (front : List ℕ) → words_of_lines (join_front front []) ≡ words front
all_joined [] = sym no_words
all_joined (b ∷ front) = ap words_of_lines (join_nothing (b ∷ front) (omega arith)) ∙ append-nil (words (b ∷ front))

words_step : (front : List ℕ) (b : ℕ) (text : List ℕ) (test : Bool) → (b == 10) ≡ test → words text ≡ words_of_lines (lines text)
    → words ((front ++ b ∷ []) ++ text) ≡ words_of_lines (join_front (front ++ b ∷ []) (lines text))
    → words (front ++ b ∷ text) ≡ words_of_lines (join_front front (lines (b ∷ text)))
words_step front b text true e behind more =
    let at_end : b ≡ 10 = search (rules, tests) in
    ap (λ c. words (front ++ c ∷ text)) at_end ∙ words_append front text ∙ ap (λ ws. words front ++ ws) behind
    ∙ sym (ap (λ ls. words_of_lines (join_front front ls)) (line_end b text at_end) ∙ ap words_of_lines (join_line front [] (lines text))
    ∙ ap (λ line. words line ++ words_of_lines (lines text)) (append-nil front))
words_step front b text false e behind more =
    let within : b ≢ 10 = search (rules, tests) in
    ap words (sym (append_assoc front (b ∷ []) text)) ∙ more
    ∙ sym (ap (λ ls. words_of_lines (join_front front ls)) (line_step b text within) ∙ ap words_of_lines (sym (join_more front b (lines text))))

words_behind : (front text : List ℕ) → words (front ++ text) ≡ words_of_lines (join_front front (lines text))
words_behind front [] = ap words (append-nil front) ∙ sym (ap (λ ls. words_of_lines (join_front front ls)) no_lines ∙ all_joined front)
words_behind front (b ∷ text) = words_step front b text (b == 10) refl (words_behind [] text) (words_behind (front ++ b ∷ []) text)

-- the words of a text are the words of its lines, line after line
pub words_by_lines : (text : List ℕ) → words text ≡ words_of_lines (lines text)
words_by_lines text = words_behind [] text

-- ---- numbers
decimal_model : IsNumeralModel (λ ds. all_ascii_digits ds ≡ true) (with_digits 0)
decimal_model = numerals_by_fold _ tells_all_ascii_digits with_digits (search rules)

-- what a number is printed as is read as that number
pub number_in_decimal : (n : ℕ) → n < 2 ^ 32 → number_in (decimal n) ≡ Some n
number_in_decimal n fits =
    let small : n < 2 ^ 64 = omega arith in
    number_here (decimal n) n (decimal_nonempty n small) (length-decimal-le 10 n (omega arith) (omega arith) small)
    (digits_decimal decimal_model n small) (digits_value-decimal decimal_model n small) fits

digit_in_word : (b : ℕ) → is_ascii_digit b ≡ true → ends_word b ≡ false
digit_in_word b digit = search (rules, tests)

no_digit_ends : (digits : List ℕ) → all_ascii_digits digits ≡ true → AllByRecursion (λ b. ends_word b ≡ false) digits
no_digit_ends [] h = tt
no_digit_ends (b ∷ digits) h =
    let both = and_parts (is_ascii_digit b) (all_ascii_digits digits) h in
    (digit_in_word b both.0, no_digit_ends digits both.1)

-- what a number is printed as is a word
pub decimal_is_word : (n : ℕ) → n < 2 ^ 64 → IsWord (decimal n)
decimal_is_word n small = (decimal_nonempty n small, no_digit_ends (decimal n) (digits_decimal decimal_model n small))
