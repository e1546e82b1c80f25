-- How a word is read as a number, digit by digit.
use Rattle.std.proofs.Common.{◌≡◌, ◌⊎◌, inl, inr, ℕ, zero, suc, ◌<◌, ◌≤◌, ◌+◌, ◌*◌, ◌^◌, Bool, true, false, ◌&&◌, List, [], ◌∷◌, length, get_or, drop, nat_lt, nat_le, Some, None, if◌then◌else◌, refl, sym, ap, ◌∙◌, arith, rules, tests}
use Rattle.std.proofs.lemmas.Bool.{and_parts, and_cases}
use Rattle.std.proofs.lemmas.List.{at_drop_more, at_drop_all}
use Rattle.std.proofs.Math.Nat.{pow-suc}
use Rattle.std.specs.Char.{is_ascii_digit}
use Rattle.std.specs.Str.{all_ascii_digits}
use Rattle.ice_base.proofs.Booleans.{and_false}
use Rattle.ice_base.specs.Text.{with_digit, with_digits, decimal_value, is_number, number_in}

-- the digits so far are read: those that are left decide
pub record ReadTo (word rest : List ℕ) (number : ℕ) : Type 0 where
  pub value : decimal_value word ≡ with_digits number rest
  pub digits : all_ascii_digits word ≡ all_ascii_digits rest
  pub fits : number < 2 ^ 32

-- digits make no number less
no_less : (n : ℕ) (digits : List ℕ) → n ≤ with_digits n digits
no_less n [] = omega arith
no_less n (d ∷ ds) = omega (arith, no_less (with_digit n d) ds)

second_false : (a b c d : Bool) → b ≡ false → (a && b && c && d) ≡ false
second_false a b c d e = rw (e, and_false a) refl

third_false : (a b c d : Bool) → c ≡ false → (a && b && c && d) ≡ false
third_false a b c d e = rw (e, and_false (a && b)) refl

fourth_false : (a b c d : Bool) → d ≡ false → (a && b && c && d) ≡ false
fourth_false a b c d e = rw e (and_false (a && b && c))

pub number_is : (word : List ℕ) → number_in word ≡ (if is_number word then Some (decimal_value word) else None)
unfolding number_in
number_is word = refl

no_number : (word : List ℕ) → is_number word ≡ false → number_in word ≡ None
no_number word e = number_is word ∙ rw e refl

pub empty_word : (word : List ℕ) → length word ≡ 0 → number_in word ≡ None
empty_word word e = no_number word (rw e refl)

pub long_word : (word : List ℕ) → 10 < length word → number_in word ≡ None
long_word word lt =
    let long : nat_le (length word) 10 ≡ false = search (rules, tests) in
    no_number word (second_false (nat_le 1 (length word)) (nat_le (length word) 10) (all_ascii_digits word) (nat_lt (decimal_value word) (2 ^ 32)) long)

-- a word with a byte that is no digit
no_digits : (word : List ℕ) → all_ascii_digits word ≡ false → number_in word ≡ None
no_digits word e = no_number word (third_false (nat_le 1 (length word)) (nat_le (length word) 10) (all_ascii_digits word) (nat_lt (decimal_value word) (2 ^ 32)) e)

-- a word with too great a value
too_great : (word : List ℕ) → 2 ^ 32 ≤ decimal_value word → number_in word ≡ None
too_great word le =
    let great : nat_lt (decimal_value word) (2 ^ 32) ≡ false = search (rules, tests) in
    no_number word (fourth_false (nat_le 1 (length word)) (nat_le (length word) 10) (all_ascii_digits word) (nat_lt (decimal_value word) (2 ^ 32)) great)

value_goes_on : (word : List ℕ) (i number : ℕ) → ReadTo word (drop i word) number → i < length word
    → decimal_value word ≡ with_digits (with_digit number (get_or word i 0)) (drop (i + 1) word)
value_goes_on word i number so_far lt = so_far.value ∙ at_drop_more (with_digits number) word i 0 lt

digits_go_on : (word : List ℕ) (i number : ℕ) → ReadTo word (drop i word) number → i < length word
    → all_ascii_digits word ≡ (is_ascii_digit (get_or word i 0) && all_ascii_digits (drop (i + 1) word))
digits_go_on word i number so_far lt = so_far.digits ∙ at_drop_more all_ascii_digits word i 0 lt

pub digit_joins : (word : List ℕ) (i number : ℕ) → ReadTo word (drop i word) number → i < length word
    → (is_ascii_digit (get_or word i 0) && nat_lt (with_digit number (get_or word i 0)) (2 ^ 32)) ≡ true
    → ReadTo word (drop (i + 1) word) (with_digit number (get_or word i 0))
digit_joins word i number so_far lt joins =
    let both = and_parts (is_ascii_digit (get_or word i 0)) (nat_lt (with_digit number (get_or word i 0)) (2 ^ 32)) joins in
    let small : nat_lt (with_digit number (get_or word i 0)) (2 ^ 32) ≡ true = both.1 in
    record {
      value = value_goes_on word i number so_far lt;
      digits = digits_go_on word i number so_far lt ∙ ap (λ first. first && all_ascii_digits (drop (i + 1) word)) both.0;
      fits = search (rules, tests);
    }

stops_by : (word : List ℕ) (i number : ℕ) → ReadTo word (drop i word) number → i < length word
    → (is_ascii_digit (get_or word i 0) ≡ false) ⊎ (nat_lt (with_digit number (get_or word i 0)) (2 ^ 32) ≡ false)
    → number_in word ≡ None
stops_by word i number so_far lt (inl no_digit) =
    no_digits word (digits_go_on word i number so_far lt ∙ ap (λ first. first && all_ascii_digits (drop (i + 1) word)) no_digit)
stops_by word i number so_far lt (inr great) =
    let next : ℕ = with_digit number (get_or word i 0) in
    let over : 2 ^ 32 ≤ next = search (rules, tests) in
    too_great word (omega (arith, over, no_less next (drop (i + 1) word), value_goes_on word i number so_far lt))

pub digit_stops : (word : List ℕ) (i number : ℕ) → ReadTo word (drop i word) number → i < length word
    → (is_ascii_digit (get_or word i 0) && nat_lt (with_digit number (get_or word i 0)) (2 ^ 32)) ≡ false
    → number_in word ≡ None
digit_stops word i number so_far lt stops =
    stops_by word i number so_far lt (and_cases (is_ascii_digit (get_or word i 0)) (nat_lt (with_digit number (get_or word i 0)) (2 ^ 32)) stops)

-- a word of one to ten digits is the number that they write, where that is not too great
pub number_here : (word : List ℕ) (number : ℕ) → 0 < length word → length word ≤ 10 → all_ascii_digits word ≡ true → decimal_value word ≡ number → number < 2 ^ 32
    → number_in word ≡ Some number
number_here word number some short digits value fits =
    let not_empty : nat_le 1 (length word) ≡ true = search (rules, tests) in
    let not_long : nat_le (length word) 10 ≡ true = search (rules, tests) in
    let not_great : nat_lt number (2 ^ 32) ≡ true = search (rules, tests) in
    number_is word ∙ (rw (value, digits, not_empty, not_long, not_great) refl)

pub digits_end : (word : List ℕ) (i number : ℕ) → ReadTo word (drop i word) number → length word ≤ i → 0 < length word → length word ≤ 10
    → Some number ≡ number_in word
digits_end word i number so_far le some short =
    let value : decimal_value word ≡ number = so_far.value ∙ at_drop_all (with_digits number) word i le in
    let digits : all_ascii_digits word ≡ true = so_far.digits ∙ at_drop_all all_ascii_digits word i le in
    sym (number_here word number some short digits value so_far.fits)

-- ---- words of at most nine digits
-- a byte that is no digit
pub no_digit : (word : List ℕ) (i number : ℕ) → ReadTo word (drop i word) number → i < length word → is_ascii_digit (get_or word i 0) ≡ false → number_in word ≡ None
no_digit word i number so_far lt other =
    no_digits word (digits_go_on word i number so_far lt ∙ ap (λ first. first && all_ascii_digits (drop (i + 1) word)) other)

few_digits : (i : ℕ) → i < 9 → 10 ^ i ≤ 100000000
few_digits zero lt = omega arith
few_digits (suc zero) lt = omega arith
few_digits (suc (suc zero)) lt = omega arith
few_digits (suc (suc (suc zero))) lt = omega arith
few_digits (suc (suc (suc (suc zero)))) lt = omega arith
few_digits (suc (suc (suc (suc (suc zero))))) lt = omega arith
few_digits (suc (suc (suc (suc (suc (suc zero)))))) lt = omega arith
few_digits (suc (suc (suc (suc (suc (suc (suc zero))))))) lt = omega arith
few_digits (suc (suc (suc (suc (suc (suc (suc (suc zero)))))))) lt = omega arith
few_digits (suc (suc (suc (suc (suc (suc (suc (suc (suc n))))))))) lt = absurd (omega arith)

pub short_below : (number i : ℕ) → number < 10 ^ i → i < 9 → number < 100000000
short_below number i below lt = let few = few_digits i lt in omega (arith, below, few)

pub short_joins : (word : List ℕ) (i number next : ℕ) → ReadTo word (drop i word) number → number < 10 ^ i → i < length word → is_ascii_digit (get_or word i 0) ≡ true → next ≡ with_digit number (get_or word i 0) → length word < 10
    → ReadTo word (drop (i + 1) word) next × (next < 10 ^ (i + 1))
short_joins word i number next so_far below lt digit is short =
    let most : get_or word i 0 ≤ 57 = search (rules, tests) in
    let small : number < 100000000 = short_below number i below (omega (arith, lt, short)) in
    let one : i + 1 ≡ suc i = omega arith in
    let power : 10 ^ (i + 1) ≡ 10 ^ i * 10 = ap (λ n. 10 ^ n) one ∙ pow-suc 10 i in (
      record {
        value = value_goes_on word i number so_far lt ∙ ap (λ n. with_digits n (drop (i + 1) word)) (sym is);
        digits = digits_go_on word i number so_far lt ∙ ap (λ first. first && all_ascii_digits (drop (i + 1) word)) digit;
        fits = omega (arith, is, most, small);
      },
      omega (arith, is, most, below, power),
    )
