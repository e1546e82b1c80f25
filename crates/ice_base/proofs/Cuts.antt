-- Where a text is cut into lines and words.
use Rattle.std.proofs.Common.{◌≡◌, ◌≢◌, ℕ, ◌<◌, ◌≤◌, ◌+◌, ◌==◌, Bool, true, false, List, [], ◌∷◌, ◌++◌, length, filter, ◌-◌, length-drop, get_or, take, drop, refl, sym, ap, subst, ◌∙◌, zero, suc, length-take, arith, rules, tests, append-nil, nat_lt}
use Rattle.std.proofs.lemmas.List.{at_drop_more, at_drop_all, get_or_default, take_more, take_all}
use Rattle.ice_base.specs.Text.{onto_first, lines, numbered, pieces, words, ends_word}
use Rattle.ice_base.specs.Lines.{StartsWord}

-- a front, joined to the first piece
abbrev pub join_front : List ℕ → List (List ℕ) → List (List ℕ)
join_front [] ls = ls
join_front (x ∷ xs) ls = onto_first x (join_front xs ls)

pub join_line : (xs l : List ℕ) (ls : List (List ℕ)) → join_front xs (l ∷ ls) ≡ (xs ++ l) ∷ ls
join_line [] l ls = refl
join_line (x ∷ xs) l ls = ap (onto_first x) (join_line xs l ls)

-- a front with nothing behind it
pub join_nothing : (xs : List ℕ) → 0 < length xs → join_front xs [] ≡ xs ∷ []
join_nothing [] lt = absurd (omega arith)
join_nothing (x ∷ []) lt = refl
join_nothing (x ∷ y ∷ xs) lt = ap (onto_first x) (join_nothing (y ∷ xs) (omega arith))

pub join_more : (xs : List ℕ) (x : ℕ) (ls : List (List ℕ)) → join_front (xs ++ x ∷ []) ls ≡ join_front xs (onto_first x ls)
join_more [] x ls = refl
join_more (y ∷ xs) x ls = ap (onto_first y) (join_more xs x ls)

-- ---- lines
pub line_step : (b : ℕ) (bs : List ℕ) → b ≢ 10 → lines (b ∷ bs) ≡ onto_first b (lines bs)
unfolding lines
line_step b bs within = let test : (b == 10) ≡ false = search (rules, tests) in rw test refl

pub line_end : (b : ℕ) (bs : List ℕ) → b ≡ 10 → lines (b ∷ bs) ≡ [] ∷ lines bs
unfolding lines
line_end b bs at_end = rw at_end refl

pub cut_step : (text : List ℕ) (i b : ℕ) → i < length text → b ≡ get_or text i b → b ≢ 10
    → join_front (take i text) (lines (drop i text)) ≡ join_front (take (i + 1) text) (lines (drop (i + 1) text))
cut_step text i b lt is within =
    ap (join_front (take i text)) (at_drop_more lines text i b lt ∙ ap (λ x. lines (x ∷ drop (i + 1) text)) (sym is) ∙ line_step b (drop (i + 1) text) within)
    ∙ sym (join_more (take i text) b (lines (drop (i + 1) text)))
    ∙ ap (λ xs. join_front xs (lines (drop (i + 1) text))) (sym (take_more text i b lt ∙ ap (λ x. take i text ++ x ∷ []) (sym is)))

pub cut_here : (text : List ℕ) (i b : ℕ) → i < length text → b ≡ get_or text i b → b ≡ 10
    → join_front (take i text) (lines (drop i text)) ≡ take i text ∷ lines (drop (i + 1) text)
cut_here text i b lt is at_end =
    ap (join_front (take i text)) (at_drop_more lines text i b lt ∙ ap (λ x. lines (x ∷ drop (i + 1) text)) (sym is) ∙ line_end b (drop (i + 1) text) at_end)
    ∙ join_line (take i text) [] (lines (drop (i + 1) text)) ∙ ap (λ x. x ∷ lines (drop (i + 1) text)) (append-nil (take i text))

pub no_lines : lines [] ≡ []
unfolding lines
no_lines = refl

pub cut_end : (text : List ℕ) (i : ℕ) → 0 < length text → length text ≤ i → join_front (take i text) (lines (drop i text)) ≡ text ∷ lines []
cut_end text i some le =
    ap (join_front (take i text)) (at_drop_all lines text i le ∙ no_lines) ∙ ap (λ x. join_front x []) (take_all i text le) ∙ join_nothing text some ∙ ap (λ x. text ∷ x) (sym no_lines)

-- ---- words
abbrev pub some_bytes : List ℕ → Bool
some_bytes piece = nat_lt 0 (length piece)

pub piece_step : (b : ℕ) (bs : List ℕ) → ends_word b ≡ false → pieces (b ∷ bs) ≡ onto_first b (pieces bs)
unfolding pieces
piece_step b bs within = rw within refl

pub piece_end : (b : ℕ) (bs : List ℕ) → ends_word b ≡ true → pieces (b ∷ bs) ≡ [] ∷ pieces bs
unfolding pieces
piece_end b bs at_end = rw at_end refl

pub words_are : (bs : List ℕ) → words bs ≡ filter some_bytes (pieces bs)
unfolding words
words_are bs = refl

pub word_step : (text : List ℕ) (i b : ℕ) → i < length text → b ≡ get_or text i b → ends_word b ≡ false
    → join_front (take i text) (pieces (drop i text)) ≡ join_front (take (i + 1) text) (pieces (drop (i + 1) text))
word_step text i b lt is within =
    ap (join_front (take i text)) (at_drop_more pieces text i b lt ∙ ap (λ x. pieces (x ∷ drop (i + 1) text)) (sym is) ∙ piece_step b (drop (i + 1) text) within)
    ∙ sym (join_more (take i text) b (pieces (drop (i + 1) text)))
    ∙ ap (λ xs. join_front xs (pieces (drop (i + 1) text))) (sym (take_more text i b lt ∙ ap (λ x. take i text ++ x ∷ []) (sym is)))

pieces_here : (text : List ℕ) (i b : ℕ) → i < length text → b ≡ get_or text i b → ends_word b ≡ true → pieces (drop i text) ≡ [] ∷ pieces (drop (i + 1) text)
pieces_here text i b lt is at_end = at_drop_more pieces text i b lt ∙ ap (λ x. pieces (x ∷ drop (i + 1) text)) (sym is) ∙ piece_end b (drop (i + 1) text) at_end

pub kept : (w : List ℕ) (ps : List (List ℕ)) → 0 < length w → filter some_bytes (w ∷ ps) ≡ w ∷ filter some_bytes ps
kept w ps lt = let at_end : some_bytes w ≡ true = search rules in rw at_end refl

-- a break is passed over
pub skip_step : (text : List ℕ) (i b : ℕ) → i < length text → b ≡ get_or text i b → ends_word b ≡ true → words (drop i text) ≡ words (drop (i + 1) text)
skip_step text i b lt is at_end = words_are (drop i text) ∙ ap (filter some_bytes) (pieces_here text i b lt is at_end) ∙ sym (words_are (drop (i + 1) text))

pub starts_here : (text : List ℕ) (i b : ℕ) → i < length text → b ≡ get_or text i b → ends_word b ≡ false → StartsWord (drop i text)
starts_here text i b lt is within = subst StartsWord (sym (at_drop_more (λ l. l) text i b lt)) (rw (← is) within)

pub nothing_left : (text : List ℕ) (i : ℕ) → length text ≤ i → words (drop i text) ≡ words []
nothing_left text i le = at_drop_all words text i le

pub word_here : (text : List ℕ) (i b : ℕ) → 0 < i → i < length text → b ≡ get_or text i b → ends_word b ≡ true → pieces text ≡ join_front (take i text) (pieces (drop i text))
    → words text ≡ take i text ∷ words (drop i text)
word_here text i b some lt is at_end so_far =
    let here = pieces_here text i b lt is at_end in
    let more : List (List ℕ) = pieces (drop (i + 1) text) in
    words_are text
    ∙ ap (filter some_bytes) (so_far ∙ ap (join_front (take i text)) here ∙ join_line (take i text) [] more ∙ ap (λ x. x ∷ more) (append-nil (take i text)))
    ∙ kept (take i text) more (omega (arith, length-take i text))
    ∙ ap (λ x. take i text ∷ x) (sym (words_are (drop i text) ∙ ap (filter some_bytes) here))

pub no_pieces : pieces [] ≡ [] ∷ []
unfolding pieces
no_pieces = refl

pub no_words : words [] ≡ []
no_words = words_are [] ∙ ap (filter some_bytes) no_pieces

pub word_end : (text : List ℕ) (i : ℕ) → 0 < length text → length text ≤ i → pieces text ≡ join_front (take i text) (pieces (drop i text)) → words text ≡ text ∷ words []
word_end text i some le so_far =
    words_are text
    ∙ ap (filter some_bytes) (so_far ∙ ap (join_front (take i text)) (at_drop_all pieces text i le ∙ no_pieces) ∙ join_line (take i text) [] [] ∙ ap (λ x. x ∷ []) (append-nil (take i text) ∙ take_all i text le))
    ∙ kept text [] some
    ∙ ap (λ x. text ∷ x) (sym no_words)

pub no_break_first : (text : List ℕ) (i b : ℕ) → StartsWord text → i < length text → b ≡ get_or text i b → ends_word b ≡ true → 0 < i
no_break_first [] i b s lt is at_end = absurd (omega arith)
no_break_first (x ∷ text) zero b s lt is at_end = let same : ends_word b ≡ false = rw is s in absurd (cc)
no_break_first (x ∷ text) (suc i) b s lt is at_end = omega arith

-- ---- the same as the loops have them
pub tail_is : (text : List ℕ) (i : ℕ) → take (length text - i) (drop i text) ≡ drop i text
tail_is text i = take_all (length text - i) (drop i text) (omega (arith, length-drop i text))

pub line_goes_on : (text : List ℕ) (i : ℕ) → lines text ≡ join_front (take i text) (lines (drop i text)) → i < length text → get_or text i 0 ≢ 10
    → lines text ≡ join_front (take (i + 1) text) (lines (drop (i + 1) text))
line_goes_on text i so_far lt within = so_far ∙ cut_step text i (get_or text i 0) lt (get_or_default text i 0 (get_or text i 0) lt) within

pub line_is_cut : (text : List ℕ) (i : ℕ) → lines text ≡ join_front (take i text) (lines (drop i text)) → i < length text → get_or text i 0 ≡ 10
    → lines text ≡ take i text ∷ lines (take (length text - (i + 1)) (drop (i + 1) text))
line_is_cut text i so_far lt at_end = rw (tail_is text (i + 1)) (so_far ∙ cut_here text i (get_or text i 0) lt (get_or_default text i 0 (get_or text i 0) lt) at_end)

pub line_is_last : (text : List ℕ) (i : ℕ) → lines text ≡ join_front (take i text) (lines (drop i text)) → 0 < length text → length text ≤ i → lines text ≡ text ∷ lines []
line_is_last text i so_far some le = so_far ∙ cut_end text i some le

pub word_goes_on : (text : List ℕ) (i : ℕ) → pieces text ≡ join_front (take i text) (pieces (drop i text)) → i < length text → ends_word (get_or text i 0) ≡ false
    → pieces text ≡ join_front (take (i + 1) text) (pieces (drop (i + 1) text))
word_goes_on text i so_far lt within = so_far ∙ word_step text i (get_or text i 0) lt (get_or_default text i 0 (get_or text i 0) lt) within

pub word_is_cut : (text : List ℕ) (i : ℕ) → StartsWord text → pieces text ≡ join_front (take i text) (pieces (drop i text)) → i < length text → ends_word (get_or text i 0) ≡ true
    → words text ≡ take i text ∷ words (take (length text - i) (drop i text))
word_is_cut text i starts so_far lt at_end =
    let is = get_or_default text i 0 (get_or text i 0) lt in
    rw (tail_is text i) (word_here text i (get_or text i 0) (no_break_first text i (get_or text i 0) starts lt is at_end) lt is at_end so_far)

pub break_is_passed : (text : List ℕ) (i : ℕ) → words text ≡ words (drop i text) → i < length text → ends_word (get_or text i 0) ≡ true → words text ≡ words (drop (i + 1) text)
break_is_passed text i so_far lt at_end = so_far ∙ skip_step text i (get_or text i 0) lt (get_or_default text i 0 (get_or text i 0) lt) at_end

pub word_starts : (text : List ℕ) (i : ℕ) → i < length text → ends_word (get_or text i 0) ≡ false → StartsWord (take (length text - i) (drop i text))
word_starts text i lt within = rw (tail_is text i) (starts_here text i (get_or text i 0) lt (get_or_default text i 0 (get_or text i 0) lt) within)

no_text : (text : List ℕ) → length text ≡ 0 → text ≡ []
no_text [] e = refl
no_text (x ∷ text) e = absurd (omega arith)

pub no_line_left : (text : List ℕ) (n : ℕ) → length text ≡ 0 → numbered n (lines text) ≡ []
no_line_left text n e = ap (λ t. numbered n (lines t)) (no_text text e) ∙ ap (numbered n) no_lines

pub no_word_left : (text : List ℕ) → length text ≡ 0 → words text ≡ []
no_word_left text e = ap words (no_text text e) ∙ no_words
