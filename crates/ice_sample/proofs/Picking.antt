-- The names that cells may read, by their places, and words one after another.
use Rattle.std.proofs.Common.{◌≡◌, ℕ, ◌+◌, ◌%◌, ◌-◌, ◌<◌, ◌≤◌, ◌++◌, ◌∷◌, Bool, true, false, nat_lt, if◌then◌else◌, List, [], map, length, get_or, min, zero, suc, ap, sym, ◌∙◌, refl, arith, append_assoc, append-nil, length-append}
use Rattle.std.specs.List.{range_with_len}
use Rattle.std.proofs.lemmas.List.FromFn.{length-map-range_with_len, get_or-map-range_with_len}
use Rattle.std.proofs.lemmas.Bool.Decides.{nat_tests}
use Rattle.std.proofs.lemmas.List.{get_or_append_left, get_or-append_right}
use Rattle.std.proofs.lemmas.Option.{unwrap_or-slice_get}
use Rattle.ice_base.specs.Lines.{text_of_lines}
use Rattle.rand_pcg.specs.Lcg.{Lcg}
use Rattle.ice_sample.specs.Netlist.{drawn, after, input_name, cell_name, names, name_at, found, picked}
use Rattle.ice_base.proofs.Pieces.{further, text_join}

-- how many names may be read
pub length-names : (cells : ℕ) → length (names cells) ≡ 8 + cells
unfolding names
length-names cells =
    length-append (map input_name (range_with_len 0 8)) (map cell_name (range_with_len 0 cells))
    ∙ ap (λ n. 8 + n) (length-map-range_with_len cell_name 0 cells)

-- the generator after some words and then others
pub after-after : (n m : ℕ) (g : Lcg) → after m (after n g) ≡ after (n + m) g
after-after n zero g = ap (λ k. after k g) (let e : n ≡ n + 0 = omega arith in e)
after-after n (suc m) g = ap (λ h. (drawn h).1) (after-after n m g) ∙ ap (λ k. after k g) (let e : suc (n + m) ≡ n + suc m = omega arith in e)

-- what stands at a place of the inputs and the cells behind them, by whether it is one of the inputs
name_by : (cells p : ℕ) (b : Bool) → nat_lt p 8 ≡ b → p < 8 + cells
    → get_or (map input_name (range_with_len 0 8) ++ map cell_name (range_with_len 0 cells)) p [] ≡ (if b then input_name p else cell_name (p - 8))
name_by cells p true e below =
    let low : p < 8 = grind (arith, nat_tests) in
    let inputs = map input_name (range_with_len 0 8) in
    get_or_append_left inputs (map cell_name (range_with_len 0 cells)) [] p low
    ∙ get_or-map-range_with_len input_name 0 8 p p [] low (omega arith)
name_by cells p false e below =
    let high : 8 ≤ p = grind (arith, nat_tests) in
    get_or-append_right (map input_name (range_with_len 0 8)) (map cell_name (range_with_len 0 cells)) 8 p [] (length-map-range_with_len input_name 0 8) high
    ∙ get_or-map-range_with_len cell_name 0 cells (p - 8) (p - 8) [] (omega arith) (omega arith)

-- the name at a place
pub found_name : (cells p : ℕ) → p < 8 + cells → found (names cells) p ≡ name_at p
unfolding names name_at
found_name cells p below =
    unwrap_or-slice_get (map input_name (range_with_len 0 8) ++ map cell_name (range_with_len 0 cells)) p [] ∙ name_by cells p (nat_lt p 8) refl below

-- the place that is counted from behind
pub picked_name : (cells w n v m : ℕ) → n ≡ cells → v ≡ w → m ≡ min (n + 8) 16 → found (names cells) (n + 8 - 1 - v % m) ≡ picked (names cells) w
unfolding picked
picked_name cells w n v m count drawn least =
    let e : n + 8 ≡ length (names cells) = omega (arith, length-names cells, count) in
    ap (λ k. found (names cells) (n + 8 - 1 - v % k)) least ∙ ap (λ u. found (names cells) (n + 8 - 1 - u % min (n + 8) 16)) drawn
    ∙ ap (λ k. found (names cells) (k - 1 - w % min k 16)) e

pub output_name : (cells j : ℕ) → found (names cells) (cells + j) ≡ found (names cells) (length (names cells) - 8 + j)
output_name cells j =
    let e : cells + j ≡ length (names cells) - 8 + j = omega (arith, length-names cells) in
    ap (found (names cells)) e

-- a line that is written to its end
pub ended : (start old new line : List ℕ) → old ≡ start ++ line → new ≡ old ++ 10 ∷ [] → new ≡ start ++ text_of_lines (line ∷ [])
ended start old new line before put =
    further start old new line (10 ∷ []) (text_of_lines (line ∷ [])) before put (sym (append-nil (line ++ 10 ∷ [])))

-- a line that is written to its end in three pieces
pub ended_third : (start s t u new a b c : List ℕ) → s ≡ start ++ a → t ≡ s ++ b → u ≡ t ++ c → new ≡ u ++ 10 ∷ [] → new ≡ start ++ text_of_lines ((a ++ b ++ c) ∷ [])
ended_third start s t u new a b c first second third put =
    ended start u new (a ++ b ++ c) (further start t u (a ++ b) c (a ++ b ++ c) (further start s t a b (a ++ b) first second refl) third refl) put

-- the line of an output in three pieces, and the line behind it
pub two_lines : (start s t u new a b c line : List ℕ) → s ≡ start ++ a → t ≡ s ++ b → u ≡ t ++ c → new ≡ u ++ 10 ∷ (line ++ 10 ∷ [])
    → new ≡ start ++ text_of_lines ((a ++ b ++ c) ∷ line ∷ [])
two_lines start s t u new a b c line first second third put =
    let whole = a ++ b ++ c in
    let written : u ≡ start ++ whole = further start t u (a ++ b) c whole (further start s t a b (a ++ b) first second refl) third refl in
    further start u new whole (10 ∷ (line ++ 10 ∷ [])) (text_of_lines (whole ∷ line ∷ [])) written put
    (ap (λ x. whole ++ 10 ∷ x) (sym (append-nil (line ++ 10 ∷ []))) ∙ sym (append_assoc whole (10 ∷ []) (text_of_lines (line ∷ []))))

-- three pieces of text, each of whole lines
pub lines_third : (start s t new : List ℕ) (a b c : List (List ℕ)) → s ≡ start ++ text_of_lines a → t ≡ s ++ text_of_lines b → new ≡ t ++ text_of_lines c
    → new ≡ start ++ text_of_lines (a ++ b ++ c)
lines_third start s t new a b c first second third =
    further start t new (text_of_lines (a ++ b)) (text_of_lines c) (text_of_lines (a ++ b ++ c))
    (further start s t (text_of_lines a) (text_of_lines b) (text_of_lines (a ++ b)) first second (text_join a b)) third (text_join (a ++ b) c)

-- a place, and behind a blank a word that is ended by a line
pub placed_line : (place word pin : List ℕ) → (place ++ 32 ∷ word) ++ text_of_lines (pin ∷ []) ≡ text_of_lines (((place ++ 32 ∷ []) ++ (word ++ pin)) ∷ [])
placed_line place word pin =
    let start = place ++ 32 ∷ word in
    let whole : start ++ pin ≡ (place ++ 32 ∷ []) ++ (word ++ pin) = append_assoc place (32 ∷ word) pin ∙ sym (append_assoc place (32 ∷ []) (word ++ pin)) in
    sym (append_assoc start (pin ++ 10 ∷ []) []) ∙ ap (λ x. x ++ []) (sym (append_assoc start pin (10 ∷ []))) ∙ ap (λ line. text_of_lines (line ∷ [])) whole
