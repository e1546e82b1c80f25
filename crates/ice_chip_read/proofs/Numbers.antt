-- How a number at the front of a text is read, digit by digit.
use Rattle.std.proofs.Common.{◌≡◌, ◌≢◌, ℕ, suc, ◌<◌, ◌≤◌, ◌+◌, ◌*◌, ◌-◌, ◌^◌, true, List, [], ◌∷◌, ◌++◌, length, get_or, take, drop, refl, sym, ap, ◌∙◌, arith, rules, tests, length-take, take-append-drop}
use Rattle.std.proofs.lemmas.Bool.{and_parts}
use Rattle.std.proofs.lemmas.List.{take_more}
use Rattle.std.proofs.Math.Nat.{pow-suc}
use Rattle.std.specs.Char.{is_ascii_digit}
use Rattle.std.specs.Str.{all_ascii_digits}
use Rattle.ice_base.specs.Text.{with_digit, with_digits, decimal_value}
use Rattle.ice_base.proofs.Cuts.{tail_is}
use Rattle.ice_base.proofs.Digits.{number_here, short_below}
use Rattle.ice_chip_read.specs.Fronts.{AreDigits, IsNumberAhead}

all_join : (xs : List ℕ) (d : ℕ) → all_ascii_digits xs ≡ true → is_ascii_digit d ≡ true → all_ascii_digits (xs ++ d ∷ []) ≡ true
all_join [] d all digit = rw digit refl
all_join (x ∷ xs) d all digit = let both = and_parts (is_ascii_digit x) (all_ascii_digits xs) all in rw both.0 (all_join xs d both.1 digit)

value_join : (n : ℕ) (xs : List ℕ) (d : ℕ) → with_digits n (xs ++ d ∷ []) ≡ with_digit (with_digits n xs) d
value_join n [] d = refl
value_join n (x ∷ xs) d = value_join (with_digit n x) xs d

-- nothing was read yet
pub none_read : (text : List ℕ) → AreDigits text 0 0
none_read text = record { digits = refl; value = refl; below = omega arith }

-- the next digit
pub digit_read : (text : List ℕ) (k number next : ℕ) → AreDigits text k number → k < length text → is_ascii_digit (get_or text k 0) ≡ true → next ≡ with_digit number (get_or text k 0) → AreDigits text (k + 1) next
digit_read text k number next so_far lt digit is =
    let more : take (k + 1) text ≡ take k text ++ get_or text k 0 ∷ [] = take_more text k 0 lt in
    let most : get_or text k 0 ≤ 57 = search (rules, tests) in
    let one : k + 1 ≡ suc k = omega arith in
    let power : 10 ^ (k + 1) ≡ 10 ^ k * 10 = ap (λ n. 10 ^ n) one ∙ pow-suc 10 k in
    record {
      digits = ap all_ascii_digits more ∙ all_join (take k text) (get_or text k 0) so_far.digits digit;
      value = ap decimal_value more ∙ value_join 0 (take k text) (get_or text k 0) ∙ ap (λ v. with_digit v (get_or text k 0)) so_far.value ∙ sym is;
      below = omega (arith, is, most, so_far.below, power);
    }

-- the number that the digits write
pub number_stands : (text : List ℕ) (count number : ℕ) → AreDigits text count number → count < length text → count < 9 → count ≢ 0 → IsNumberAhead text number (take (length text - count) (drop count text))
number_stands text count number are within few some =
    let long = length-take count text in
    let small : number < 100000000 = short_below number count are.below few in
    record {
      word = take count text;
      whole = sym (take-append-drop count text) ∙ ap (λ rest. take count text ++ rest) (sym (tail_is text count));
      number = number_here (take count text) number (omega (arith, long, within, some)) (omega (arith, long, few)) are.digits are.value (omega (arith, small));
    }
