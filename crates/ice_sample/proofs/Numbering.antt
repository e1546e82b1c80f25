-- Texts of lines one after another, and of things that are numbered.
use Rattle.std.proofs.Common.{Result, OnOk, ◌≡◌, ℕ, ◌+◌, ◌-◌, ◌*◌, ◌/◌, ◌%◌, ◌^◌, ◌<◌, ◌++◌, ◌∷◌, [], List, map, zero, suc, length, take, get_or, ap, sym, ◌∙◌, refl, arith, append_assoc, append-nil, add-one}
use Rattle.std.specs.List.{flat_map, range_with_len, sum_by}
use Rattle.std.proofs.lemmas.List.{take_more, map_more, flat_map_more, length-take-le, length-map}
use Rattle.std.proofs.lemmas.List.Sums.{sum_by-cons, sum_by-append}
use Rattle.std.proofs.lemmas.Result.{on_ok_weaker}
use Rattle.std.proofs.lemmas.List.FromFn.{sum_by-map-range_with_len_more}
use Rattle.ice_base.specs.Lines.{text_of_lines}
use Rattle.ice_base.proofs.Pieces.{text_join, further}
use Rattle.ice_sample.specs.Lines.{numbered, binary}
use Rattle.ice_sample.proofs.Counting.{map_range_more, flat_map_range_more}

pub numbered-append : {A : Type 0} (size : A → ℕ) (lines : ℕ → A → List (List ℕ)) (n : ℕ) (xs ys : List A)
    → numbered size lines n (xs ++ ys) ≡ numbered size lines n xs ++ numbered size lines (n + sum_by size xs) ys
numbered-append size lines n [] ys = ap (λ m. numbered size lines m ys) (let e : n ≡ n + 0 = omega arith in e)
numbered-append size lines n (x ∷ xs) ys =
    let counted = sum_by-cons size x xs in
    let e : (n + size x) + sum_by size xs ≡ n + sum_by size (x ∷ xs) = omega (arith, counted) in
    ap (λ rest. lines n x ++ rest) (numbered-append size lines (n + size x) xs ys ∙ ap (λ m. numbered size lines (n + size x) xs ++ numbered size lines m ys) e)
    ∙ sym (append_assoc (lines n x) (numbered size lines (n + size x) xs) (numbered size lines (n + sum_by size (x ∷ xs)) ys))

-- a text that was written further, if that went well
pub further_on_ok : {T E : Type 0} (r : Result T E) (start old new a b whole : List ℕ) → old ≡ start ++ a → OnOk r (new ≡ old ++ b) → a ++ b ≡ whole → OnOk r (new ≡ start ++ whole)
further_on_ok r start old new a b whole before put e =
    on_ok_weaker {P = new ≡ old ++ b} {Q = new ≡ start ++ whole} r (λ done. further start old new a b whole before done e) put

-- a list that has grown
pub grown : {A : Type 0} (old new a b whole : List A) → old ≡ a → new ≡ old ++ b → a ++ b ≡ whole → new ≡ whole
grown old new a b whole before put e = put ∙ ap (λ xs. xs ++ b) before ∙ e

-- one thing further
pub numbered_push : {A : Type 0} (size : A → ℕ) (lines : ℕ → A → List (List ℕ)) (n : ℕ) (xs : List A) (y : A) (m : ℕ) → n + sum_by size xs ≡ m
    → text_of_lines (numbered size lines n (xs ++ y ∷ [])) ≡ text_of_lines (numbered size lines n xs) ++ text_of_lines (lines m y)
numbered_push size lines n xs y m e =
    ap text_of_lines (numbered-append size lines n xs (y ∷ []) ∙ ap (λ k. numbered size lines n xs ++ k) (append-nil (lines (n + sum_by size xs) y) ∙ ap (λ k. lines k y) e))
    ∙ sym (text_join (numbered size lines n xs) (lines m y))

count_of : {A : Type 0} (xs : List A) → sum_by (λ (x : A). 1) xs ≡ length xs
count_of [] = refl
count_of {A = A} (x ∷ xs) = let e = sum_by-cons (λ (y : A). 1) x xs in let rest = count_of xs in omega arith

-- one thing further, where each thing takes one number
pub counted_more : {A : Type 0} (lines : ℕ → A → List (List ℕ)) (n : ℕ) (xs : List A) (i : ℕ) (d : A) → i < length xs
    → text_of_lines (numbered (λ _. 1) lines n (take (i + 1) xs)) ≡ text_of_lines (numbered (λ _. 1) lines n (take i xs)) ++ text_of_lines (lines (n + i) (get_or xs i d))
counted_more {A = A} lines n xs i d below =
    let count : sum_by (λ (x : A). 1) (take i xs) ≡ i = count_of (take i xs) ∙ length-take-le i xs (omega arith) in
    ap (λ ys. text_of_lines (numbered (λ _. 1) lines n ys)) (take_more xs i d below)
    ∙ numbered_push (λ _. 1) lines n (take i xs) (get_or xs i d) (n + i) (ap (λ k. n + k) count)

-- one row further below a heading
pub row_more : {A : Type 0} (head : List ℕ) (lines : ℕ → A → List (List ℕ)) (n : ℕ) (xs : List A) (i : ℕ) (d : A) (m : ℕ) → i < length xs → m ≡ n + i
    → text_of_lines (head ∷ numbered (λ _. 1) lines n (take i xs)) ++ text_of_lines (lines m (get_or xs i d)) ≡ text_of_lines (head ∷ numbered (λ _. 1) lines n (take (i + 1) xs))
row_more head lines n xs i d m below e =
    ap (λ t. t ++ text_of_lines (lines m (get_or xs i d))) (sym (text_join (head ∷ []) (numbered (λ _. 1) lines n (take i xs))))
    ∙ append_assoc (text_of_lines (head ∷ [])) (text_of_lines (numbered (λ _. 1) lines n (take i xs))) (text_of_lines (lines m (get_or xs i d)))
    ∙ ap (λ k. text_of_lines (head ∷ []) ++ (text_of_lines (numbered (λ _. 1) lines n (take i xs)) ++ text_of_lines (lines k (get_or xs i d)))) e
    ∙ ap (λ t. text_of_lines (head ∷ []) ++ t) (sym (counted_more lines n xs i d below))
    ∙ text_join (head ∷ []) (numbered (λ _. 1) lines n (take (i + 1) xs))

-- the greatest of some digits
pub binary_step : (left n : ℕ) → 0 < left → binary left n ≡ (48 + n / 2 ^ (left - 1) % 2) ∷ binary (left - 1) n
binary_step zero n some = absurd (omega arith)
binary_step (suc k) n some = let e : k ≡ suc k - 1 = omega arith in ap (λ j. (48 + n / 2 ^ j % 2) ∷ binary j n) e

-- a digit that was written is no longer one of those that are left
pub digit_moves : (text new rest digits whole : List ℕ) (digit : ℕ) → digits ≡ digit ∷ rest → new ≡ text ++ digit ∷ [] → text ++ digits ≡ whole → new ++ rest ≡ whole
digit_moves text new rest digits whole digit e put before =
    ap (λ t. t ++ rest) put ∙ append_assoc text (digit ∷ []) rest ∙ ap (λ t. text ++ t) (sym e) ∙ before

-- one row further below a heading, where the rows have no numbers
pub line_below : {A : Type 0} (head : List ℕ) (f : A → List ℕ) (xs : List A) (i : ℕ) (d : A) → i < length xs
    → text_of_lines (head ∷ map f (take i xs)) ++ text_of_lines (f (get_or xs i d) ∷ []) ≡ text_of_lines (head ∷ map f (take (i + 1) xs))
line_below head f xs i d below =
    text_join (head ∷ map f (take i xs)) (f (get_or xs i d) ∷ []) ∙ ap (λ rows. text_of_lines (head ∷ rows)) (sym (map_more f xs i d below))

-- so many things of one size
pub count_series : {A : Type 0} (size : A → ℕ) (f : ℕ → A) (b : ℕ) → ((j : ℕ) → size (f j) ≡ b) → (k : ℕ) → sum_by size (map f (range_with_len 0 k)) ≡ b * k
count_series size f b same zero = let e : 0 ≡ b * 0 = omega arith in e
count_series size f b same (suc k) =
    let before = count_series size f b same k in
    let more : sum_by size (map f (range_with_len 0 (suc k))) ≡ sum_by size (map f (range_with_len 0 k)) + size (f k) =
    ap (λ n. sum_by size (map f (range_with_len 0 n))) (sym (add-one k)) ∙ sum_by-map-range_with_len_more size f 0 k k (omega arith) in
    let own = same k in
    omega arith

-- one thing of a series further
pub series_more : {A : Type 0} (size : A → ℕ) (lines : ℕ → A → List (List ℕ)) (n : ℕ) (f : ℕ → A) (b k m : ℕ) → ((j : ℕ) → size (f j) ≡ b) → m ≡ n + b * k
    → text_of_lines (numbered size lines n (map f (range_with_len 0 k))) ++ text_of_lines (lines m (f k)) ≡ text_of_lines (numbered size lines n (map f (range_with_len 0 (k + 1))))
series_more size lines n f b k m same e =
    let xs = map f (range_with_len 0 k) in
    let count = count_series size f b same k in
    sym (ap (λ ys. text_of_lines (numbered size lines n ys)) (map_range_more f k) ∙ numbered_push size lines n xs (f k) m (let here : n + sum_by size xs ≡ m = omega arith in here))

-- the lines of two lists of things, of which the second is numbered on from the first
pub lists_join : {A : Type 0} (size : A → ℕ) (lines : ℕ → A → List (List ℕ)) (n : ℕ) (xs ys : List A) (m : ℕ) → n + sum_by size xs ≡ m
    → text_of_lines (numbered size lines n xs) ++ text_of_lines (numbered size lines m ys) ≡ text_of_lines (numbered size lines n (xs ++ ys))
lists_join size lines n xs ys m e =
    sym (ap text_of_lines (numbered-append size lines n xs ys ∙ ap (λ k. numbered size lines n xs ++ numbered size lines k ys) e) ∙ sym (text_join (numbered size lines n xs) (numbered size lines m ys)))

-- a line, and lines behind it
pub head_join : (head : List ℕ) (lines : List (List ℕ)) → text_of_lines (head ∷ []) ++ text_of_lines lines ≡ text_of_lines (head ∷ lines)
head_join head lines = text_join (head ∷ []) lines

-- the same below a line
pub rows_join : {A : Type 0} (head : List ℕ) (size : A → ℕ) (lines : ℕ → A → List (List ℕ)) (n : ℕ) (xs ys : List A) (m : ℕ) → n + sum_by size xs ≡ m
    → text_of_lines (head ∷ numbered size lines n xs) ++ text_of_lines (numbered size lines m ys) ≡ text_of_lines (head ∷ numbered size lines n (xs ++ ys))
rows_join head size lines n xs ys m e =
    ap (λ t. t ++ text_of_lines (numbered size lines m ys)) (sym (head_join head (numbered size lines n xs)))
    ∙ append_assoc (text_of_lines (head ∷ [])) (text_of_lines (numbered size lines n xs)) (text_of_lines (numbered size lines m ys))
    ∙ ap (λ t. text_of_lines (head ∷ []) ++ t) (lists_join size lines n xs ys m e)
    ∙ head_join head (numbered size lines n (xs ++ ys))

-- no lines are no text
pub nothing_more : (start : List ℕ) → start ≡ start ++ text_of_lines []
nothing_more start = sym (append-nil start)

-- one thing further in a list of things that are made from others and take one number each
pub mapped_more : {X A : Type 0} (f : X → A) (lines : ℕ → A → List (List ℕ)) (n : ℕ) (xs : List X) (i : ℕ) (d : X) (m : ℕ) → i < length xs → m ≡ n + i
    → text_of_lines (numbered (λ _. 1) lines n (map f (take i xs))) ++ text_of_lines (lines m (f (get_or xs i d))) ≡ text_of_lines (numbered (λ _. 1) lines n (map f (take (i + 1) xs)))
mapped_more {A = A} f lines n xs i d m below e =
    let count : sum_by (λ (x : A). 1) (map f (take i xs)) ≡ i = count_of (map f (take i xs)) ∙ length-map (take i xs) f ∙ length-take-le i xs (omega arith) in
    sym (ap (λ ys. text_of_lines (numbered (λ _. 1) lines n ys)) (map_more f xs i d below)
    ∙ numbered_push (λ _. 1) lines n (map f (take i xs)) (f (get_or xs i d)) m (let here : n + sum_by (λ (x : A). 1) (map f (take i xs)) ≡ m = omega arith in here))

-- so many lists of things, each of one size
pub count_lists : {A : Type 0} (size : A → ℕ) (f : ℕ → List A) (b : ℕ) → ((j : ℕ) → sum_by size (f j) ≡ b) → (k : ℕ) → sum_by size (flat_map f (range_with_len 0 k)) ≡ b * k
count_lists size f b same zero = let e : 0 ≡ b * 0 = omega arith in e
count_lists size f b same (suc k) =
    let before = count_lists size f b same k in
    let more : sum_by size (flat_map f (range_with_len 0 (suc k))) ≡ sum_by size (flat_map f (range_with_len 0 k)) + sum_by size (f k) =
    ap (λ n. sum_by size (flat_map f (range_with_len 0 n))) (sym (add-one k)) ∙ ap (sum_by size) (flat_map_range_more f k) ∙ sum_by-append size (flat_map f (range_with_len 0 k)) (f k) in
    let own = same k in
    omega arith

-- one list of a series of lists further
pub lists_more : {A : Type 0} (size : A → ℕ) (lines : ℕ → A → List (List ℕ)) (n : ℕ) (f : ℕ → List A) (b k m : ℕ) → ((j : ℕ) → sum_by size (f j) ≡ b) → m ≡ n + b * k
    → text_of_lines (numbered size lines n (flat_map f (range_with_len 0 k))) ++ text_of_lines (numbered size lines m (f k)) ≡ text_of_lines (numbered size lines n (flat_map f (range_with_len 0 (k + 1))))
lists_more size lines n f b k m same e =
    let xs = flat_map f (range_with_len 0 k) in
    let count = count_lists size f b same k in
    lists_join size lines n xs (f k) m (let here : n + sum_by size xs ≡ m = omega arith in here)
    ∙ sym (ap (λ ys. text_of_lines (numbered size lines n ys)) (flat_map_range_more f k))

-- the lines of one thing further
pub lines_more : {X : Type 0} (before : List (List ℕ)) (f : X → List (List ℕ)) (xs : List X) (i : ℕ) (d : X) → i < length xs
    → text_of_lines (before ++ flat_map f (take i xs)) ++ text_of_lines (f (get_or xs i d)) ≡ text_of_lines (before ++ flat_map f (take (i + 1) xs))
lines_more before f xs i d below =
    text_join (before ++ flat_map f (take i xs)) (f (get_or xs i d))
    ∙ ap text_of_lines (flat_map_more f before (take i xs) (get_or xs i d) ∙ ap (λ ys. before ++ flat_map f ys) (sym (take_more xs i d below)))

-- the lines of one number further
pub numbers_more : (f : ℕ → List (List ℕ)) (k : ℕ)
    → text_of_lines (flat_map f (range_with_len 0 k)) ++ text_of_lines (f k) ≡ text_of_lines (flat_map f (range_with_len 0 (k + 1)))
numbers_more f k = sym (ap text_of_lines (flat_map_range_more f k) ∙ sym (text_join (flat_map f (range_with_len 0 k)) (f k)))

-- one row further
pub row_after : {A : Type 0} (lines : ℕ → A → List (List ℕ)) (n : ℕ) (xs : List A) (i : ℕ) (d : A) (m : ℕ) → i < length xs → m ≡ n + i
    → text_of_lines (numbered (λ _. 1) lines n (take i xs)) ++ text_of_lines (lines m (get_or xs i d)) ≡ text_of_lines (numbered (λ _. 1) lines n (take (i + 1) xs))
row_after lines n xs i d m below e =
    ap (λ k. text_of_lines (numbered (λ _. 1) lines n (take i xs)) ++ text_of_lines (lines k (get_or xs i d))) e ∙ sym (counted_more lines n xs i d below)

-- a thing behind others
pub thing_join : {A : Type 0} (size : A → ℕ) (lines : ℕ → A → List (List ℕ)) (n : ℕ) (xs : List A) (y : A) (m : ℕ) → n + sum_by size xs ≡ m
    → text_of_lines (numbered size lines n xs) ++ text_of_lines (lines m y) ≡ text_of_lines (numbered size lines n (xs ++ y ∷ []))
thing_join size lines n xs y m e = sym (numbered_push size lines n xs y m e)
