-- The place of a bit by the words for its row and its column.
use Rattle.std.proofs.Common.{◌≡◌, ℕ, ◌<◌, ◌^◌, ◌==◌, ◌&&◌, Bool, true, false, Option, None, Some, is_some, option_map, option_and_then, List, [], ◌∷◌, ◌++◌, length, nat_le, nat_lt, if◌then◌else◌, refl, sym, ap, ◌∙◌, arith, rules, tests, true≢false}
use Rattle.std.specs.Char.{is_ascii_digit}
use Rattle.std.specs.List.{AllByRecursion}
use Rattle.std.specs.Str.{all_ascii_digits}
use Rattle.std.proofs.lemmas.Bool.{and_parts}
use Rattle.ice_base.specs.Places.{onto_front, cut_at, column_named, place_named, bit_named, bit_place}
use Rattle.ice_base.specs.Text.{decimal_value, is_number, number_in, number_below}
use Rattle.ice_base.proofs.Digits.{number_is}

some_number : (word : List ℕ) (test : Bool) → is_some (if test then Some (decimal_value word) else None) ≡ true → test ≡ true
some_number word true e = refl
some_number word false e = absurd (true≢false (sym e))

below_some : (limit n : ℕ) (o : Option ℕ) → option_and_then (λ n. if nat_lt n limit then Some n else None) o ≡ Some n → is_some o ≡ true
below_some limit n None e = absurd (true≢false (sym (ap is_some e)))
below_some limit n (Some x) e = refl

-- a word that is a number has digits alone
digits_of : (limit n : ℕ) (word : List ℕ) → number_below limit word ≡ Some n → all_ascii_digits word ≡ true
digits_of limit n word e =
    let some : is_some (number_in word) ≡ true = below_some limit n (number_in word) e in
    let is : is_number word ≡ true = some_number word (is_number word) (ap is_some (sym (number_is word)) ∙ some) in
    let fits = and_parts (nat_le 1 (length word) && nat_le (length word) 10 && all_ascii_digits word) (nat_lt (decimal_value word) (2 ^ 32)) is in
    let digits = and_parts (nat_le 1 (length word) && nat_le (length word) 10) (all_ascii_digits word) fits.0 in
    digits.1

-- so a byte that is no digit is not among them
digit_apart : (stop b : ℕ) → 57 < stop → is_ascii_digit b ≡ true → (b == stop) ≡ false
digit_apart stop b behind digit = search (rules, tests)

apart : (stop : ℕ) (bytes : List ℕ) → 57 < stop → all_ascii_digits bytes ≡ true → AllByRecursion (λ b. (b == stop) ≡ false) bytes
apart stop [] behind all = tt
apart stop (b ∷ bytes) behind all = let both = and_parts (is_ascii_digit b) (all_ascii_digits bytes) all in (digit_apart stop b behind both.0, apart stop bytes behind both.1)

cut_stop : (stop : ℕ) (rest : List ℕ) → (stop == stop) ≡ true → cut_at stop (stop ∷ rest) ≡ Some ([], rest)
cut_stop stop rest same = rw same refl

cut_found : (stop : ℕ) (front rest : List ℕ) → (stop == stop) ≡ true → AllByRecursion (λ b. (b == stop) ≡ false) front → cut_at stop (front ++ stop ∷ rest) ≡ Some (front, rest)
cut_found stop [] rest same all = cut_stop stop rest same
cut_found stop (b ∷ front) rest same all = let other = all.0 in rw other (ap (option_map (onto_front b)) (cut_found stop front rest same all.1))

-- the place
pub bit_is : (columns : ℕ) (row column : List ℕ) (r c : ℕ) → number_below 16 row ≡ Some r → number_below columns column ≡ Some c
    → bit_named columns (66 ∷ (row ++ 91 ∷ (column ++ 93 ∷ []))) ≡ Some (bit_place r c)
bit_is columns row column r c is_row is_column =
    ap (option_and_then (λ cut. place_named columns cut.0 cut.1)) (cut_found 91 row (column ++ 93 ∷ []) refl (apart 91 row (omega arith) (digits_of 16 r row is_row)))
    ∙ ap (option_and_then (λ row. option_map (bit_place row) (option_and_then (λ cut. column_named columns cut.0 cut.1) (cut_at 93 (column ++ 93 ∷ []))))) is_row
    ∙ ap (λ found. option_map (bit_place r) (option_and_then (λ cut. column_named columns cut.0 cut.1) found)) (cut_found 93 column [] refl (apart 93 column (omega arith) (digits_of columns c column is_column)))
    ∙ ap (option_map (bit_place r)) is_column
