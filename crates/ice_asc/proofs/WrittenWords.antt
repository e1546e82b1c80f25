-- The rows of digits that are written for the words of a block RAM say these words.
use Rattle.std.proofs.Common.{◌≡◌, ℕ, zero, suc, ◌+◌, ◌-◌, ◌*◌, ◌/◌, ◌%◌, ◌<◌, ◌≤◌, Bool, true, false, Option, None, Some, if◌then◌else◌, List, [], ◌∷◌, ◌++◌, length, map, get_or, take, refl, sym, ap, ◌∙◌, option_map, append_assoc, append-nil, arith}
use Rattle.std.specs.List.{AllByRecursion, range_with_len}
use Rattle.std.proofs.lemmas.Bool.{eq-eqb}
use Rattle.std.proofs.lemmas.List.{take_more}
use Rattle.std.proofs.lemmas.List.Elements.{All-get_or}
use Rattle.std.proofs.lemmas.List.FromFn.{length-map-range_with_len, get_or-map-range_with_len, map-range_with_len_more, fill_by_all}
use Rattle.ice_base.specs.Lists.{all_known}
use Rattle.ice_base.specs.Text.{words, ends_word}
use Rattle.ice_base.specs.Lines.{IsLine}
use Rattle.ice_base.proofs.TextLaws.{last_word}
use Rattle.ice_base.proofs.TextLines.{word_line}
use Rattle.ice_bits.specs.Grids.{AreWords}
use Rattle.ice_asc.specs.Hex.{hex_value, digit_bit, row_bit, row_word, row_words, values_of_line, hex_digit, four_bits, word_bit, row_digit, row_digits}

-- ---- one digit
digit_back : (a b c d : Bool) → hex_value (hex_digit (four_bits a b c d)) ≡ Some (four_bits a b c d)
digit_back true true true true = refl
digit_back true true true false = refl
digit_back true true false true = refl
digit_back true true false false = refl
digit_back true false true true = refl
digit_back true false true false = refl
digit_back true false false true = refl
digit_back true false false false = refl
digit_back false true true true = refl
digit_back false true true false = refl
digit_back false true false true = refl
digit_back false true false false = refl
digit_back false false true true = refl
digit_back false false true false = refl
digit_back false false false true = refl
digit_back false false false false = refl

bits_back : (a b c d : Bool) → (digit_bit (four_bits a b c d) 0 ≡ a) × (digit_bit (four_bits a b c d) 1 ≡ b) × (digit_bit (four_bits a b c d) 2 ≡ c) × (digit_bit (four_bits a b c d) 3 ≡ d)
bits_back true true true true = (refl, refl, refl, refl)
bits_back true true true false = (refl, refl, refl, refl)
bits_back true true false true = (refl, refl, refl, refl)
bits_back true true false false = (refl, refl, refl, refl)
bits_back true false true true = (refl, refl, refl, refl)
bits_back true false true false = (refl, refl, refl, refl)
bits_back true false false true = (refl, refl, refl, refl)
bits_back true false false false = (refl, refl, refl, refl)
bits_back false true true true = (refl, refl, refl, refl)
bits_back false true true false = (refl, refl, refl, refl)
bits_back false true false true = (refl, refl, refl, refl)
bits_back false true false false = (refl, refl, refl, refl)
bits_back false false true true = (refl, refl, refl, refl)
bits_back false false true false = (refl, refl, refl, refl)
bits_back false false false true = (refl, refl, refl, refl)
bits_back false false false false = (refl, refl, refl, refl)

ends_none : (a b c d : Bool) → ends_word (hex_digit (four_bits a b c d)) ≡ false
ends_none true true true true = refl
ends_none true true true false = refl
ends_none true true false true = refl
ends_none true true false false = refl
ends_none true false true true = refl
ends_none true false true false = refl
ends_none true false false true = refl
ends_none true false false false = refl
ends_none false true true true = refl
ends_none false true true false = refl
ends_none false true false true = refl
ends_none false true false false = refl
ends_none false false true true = refl
ends_none false false true false = refl
ends_none false false false true = refl
ends_none false false false false = refl

-- ---- a row of digits
whole_row : (digits vs : List ℕ) → length digits ≡ 64 → all_known (map hex_value digits) ≡ Some vs → values_of_line digits [] ≡ Some vs
whole_row digits vs long known = ap (λ (x : Bool). if x then all_known (map hex_value digits) else None) (eq-eqb (length digits) 64 long) ∙ known

module _ (ws : List (List Bool)) (row : ℕ) where
  -- the value of the four bits from this one on
  abbrev value_from : ℕ → ℕ
  value_from n = four_bits (word_bit ws n) (word_bit ws (n + 1)) (word_bit ws (n + 2)) (word_bit ws (n + 3))

  abbrev value_at : ℕ → ℕ
  value_at place = value_from (256 * row + 4 * (63 - place))

  abbrev pub values : List ℕ
  values = map value_at (range_with_len 0 64)

  all_back : (places : List ℕ) → all_known (map hex_value (map (row_digit ws row) places)) ≡ Some (map value_at places)
  all_back [] = refl
  all_back (place ∷ places) =
      let n = 256 * row + 4 * (63 - place) in
      ap (λ (o : Option ℕ). all_known (o ∷ map hex_value (map (row_digit ws row) places))) (digit_back (word_bit ws n) (word_bit ws (n + 1)) (word_bit ws (n + 2)) (word_bit ws (n + 3)))
      ∙ ap (option_map (λ xs. value_at place ∷ xs)) (all_back places)

  none_ends : (places : List ℕ) → AllByRecursion (λ b. ends_word b ≡ false) (map (row_digit ws row) places)
  none_ends [] = tt
  none_ends (place ∷ places) =
      let n = 256 * row + 4 * (63 - place) in (ends_none (word_bit ws n) (word_bit ws (n + 1)) (word_bit ws (n + 2)) (word_bit ws (n + 3)), none_ends places)

  long : length (row_digits ws row) ≡ 64
  long = length-map-range_with_len (row_digit ws row) 0 64

  pub one_word : words (row_digits ws row) ≡ row_digits ws row ∷ []
  one_word = last_word (row_digits ws row) (let e = long in let lt : 0 < length (row_digits ws row) = omega arith in lt, none_ends (range_with_len 0 64))

  pub values_back : values_of_line (row_digits ws row) [] ≡ Some values
  values_back = whole_row (row_digits ws row) values long (all_back (range_with_len 0 64))

  none_feed : (places : List ℕ) → IsLine (map (row_digit ws row) places)
  none_feed places = word_line (map (row_digit ws row) places) (none_ends places)

  pub digits_line : IsLine (row_digits ws row)
  digits_line = none_feed (range_with_len 0 64)

  -- ---- the words of the row
  value_there : (j : ℕ) → j < 64 → get_or values j 0 ≡ value_at j
  value_there j lt = get_or-map-range_with_len value_at 0 64 j j 0 lt (omega arith)

  -- bit m of the four from this one on
  bit_of_four : (n m : ℕ) → m < 4 → digit_bit (value_from n) m ≡ word_bit ws (n + m)
  bit_of_four n zero lt = (bits_back (word_bit ws n) (word_bit ws (n + 1)) (word_bit ws (n + 2)) (word_bit ws (n + 3))).0 ∙ ap (word_bit ws) (let e : n ≡ n + 0 = omega arith in e)
  bit_of_four n (suc zero) lt = (bits_back (word_bit ws n) (word_bit ws (n + 1)) (word_bit ws (n + 2)) (word_bit ws (n + 3))).1
  bit_of_four n (suc (suc zero)) lt = (bits_back (word_bit ws n) (word_bit ws (n + 1)) (word_bit ws (n + 2)) (word_bit ws (n + 3))).2
  bit_of_four n (suc (suc (suc zero))) lt = (bits_back (word_bit ws n) (word_bit ws (n + 1)) (word_bit ws (n + 2)) (word_bit ws (n + 3))).3
  bit_of_four n (suc (suc (suc (suc m)))) lt = absurd (omega arith)

  bit_back : (n : ℕ) → n < 256 → row_bit values n ≡ word_bit ws (256 * row + n)
  bit_back n lt =
      let low : n % 4 < 4 = omega arith in
      let within : 63 - n / 4 < 64 = omega arith in
      let base : 256 * row + 4 * (63 - (63 - n / 4)) + n % 4 ≡ 256 * row + n = omega arith in
      ap (λ v. digit_bit v (n % 4)) (value_there (63 - n / 4) within) ∙ bit_of_four (256 * row + 4 * (63 - (63 - n / 4))) (n % 4) low ∙ ap (word_bit ws) base

  word_there : (k b : ℕ) → b < 16 → word_bit ws (256 * row + (16 * k + b)) ≡ get_or (get_or ws (16 * row + k) []) b false
  word_there k b lt =
      let which : (256 * row + (16 * k + b)) / 16 ≡ 16 * row + k = omega arith in
      let digit : (256 * row + (16 * k + b)) % 16 ≡ b = omega arith in
      ap (λ i. get_or (get_or ws i []) ((256 * row + (16 * k + b)) % 16) false) which ∙ ap (λ i. get_or (get_or ws (16 * row + k) []) i false) digit

  word_back : AreWords ws → row < 16 → (k : ℕ) → k < 16 → row_word values k ≡ get_or ws (16 * row + k) []
  word_back are few k lt =
      let within : 16 * row + k < length ws = let many = are.many in omega arith in
      sym (fill_by_all (λ b. row_bit values (16 * k + b)) (get_or ws (16 * row + k) []) 16 false (All-get_or (λ (word : List Bool). length word ≡ 16) ws (16 * row + k) [] within are.wide)
      (λ b less. sym (bit_back (16 * k + b) (let small : 16 * k + b < 256 = omega arith in small) ∙ word_there k b less)))

-- ---- all rows
-- so many words behind others
taken : (ws : List (List Bool)) (m c : ℕ) → m + c ≤ length ws → take m ws ++ map (λ k. get_or ws (m + k) []) (range_with_len 0 c) ≡ take (m + c) ws
taken ws m zero le = append-nil (take m ws) ∙ ap (λ n. take n ws) (let e : m ≡ m + 0 = omega arith in e)
taken ws m (suc c) le =
    let one : suc c ≡ c + 1 = omega arith in
    let more : m + c + 1 ≡ m + suc c = omega arith in
    ap (λ n. take m ws ++ map (λ k. get_or ws (m + k) []) (range_with_len 0 n)) one
    ∙ ap (λ ks. take m ws ++ ks) (map-range_with_len_more (λ k. get_or ws (m + k) []) 0 c c (omega arith))
    ∙ sym (append_assoc (take m ws) (map (λ k. get_or ws (m + k) []) (range_with_len 0 c)) (get_or ws (m + c) [] ∷ []))
    ∙ ap (λ ks. ks ++ get_or ws (m + c) [] ∷ []) (taken ws m c (omega arith))
    ∙ sym (take_more ws (m + c) [] (omega arith)) ∙ ap (λ n. take n ws) more

mapped_same : (f g : ℕ → List Bool) (k n : ℕ) → ((j : ℕ) → j < k + n → f j ≡ g j) → map f (range_with_len k n) ≡ map g (range_with_len k n)
mapped_same f g k zero same = refl
mapped_same f g k (suc n) same = ap (λ x. x ∷ map f (range_with_len (k + 1) n)) (same k (omega arith)) ∙ ap (λ xs. g k ∷ xs) (mapped_same f g (k + 1) n (λ j lt. same j (omega arith)))

pub row_joins : (ws : List (List Bool)) (row : ℕ) → AreWords ws → row < 16 → take (16 * row) ws ++ row_words (values ws row) ≡ take (16 * (row + 1)) ws
unfolding row_words
row_joins ws row are few =
    let enough : 16 * row + 16 ≤ length ws = let many = are.many in omega arith in
    let next : 16 * row + 16 ≡ 16 * (row + 1) = omega arith in
    ap (λ ks. take (16 * row) ws ++ ks) (mapped_same (row_word (values ws row)) (λ k. get_or ws (16 * row + k) []) 0 16 (λ j lt. word_back ws row are few j lt))
    ∙ taken ws (16 * row) 16 enough ∙ ap (λ n. take n ws) next
