-- The digits that are written for a number are read as this number.
use Rattle.std.proofs.Common.{◌≡◌, ℕ, ◌+◌, ◌*◌, ◌/◌, ◌%◌, ◌^◌, ◌<◌, ◌≤◌, ◌&&◌, zero, suc, true, Some, None, Ok, [], ◌∷◌, length, nat_lt, nat_le, if◌then◌else◌, refl, sym, ap, ◌∙◌, arith, rules, tests, pow-suc}
use Rattle.std.proofs.Math.Nat.{div-le_self, div-one, div-div-eq-div-mul, div-eq_of_lt}
use Rattle.ice_blif.specs.Gates.{with_param_digit}
use Rattle.ice_blif.specs.Parameters.{is_digit, bits_from, bits_say, read_value}
use Rattle.ice_blif_write.specs.Text.{digit_of, digits_of}

pub digits_long : (width n : ℕ) → length (digits_of width n) ≡ width
digits_long zero n = refl
digits_long (suc width) n = ap suc (digits_long width n)

-- one digit behind half of a number
pub record IsNext (x front : ℕ) : Type 0 where
  pub digit : is_digit (digit_of (x % 2)) ≡ true
  pub number : with_param_digit front (digit_of (x % 2)) ≡ x

one_digit : (x front b : ℕ) → x % 2 ≡ b → front ≡ x / 2 → IsNext x front
one_digit x front zero e half = record {
  digit = ap (λ b. is_digit (digit_of b)) e;
  number = ap (λ b. with_param_digit front (digit_of b)) e ∙ (let is : 2 * front + 0 ≡ x = omega arith in is);
}
one_digit x front (suc zero) e half = record {
  digit = ap (λ b. is_digit (digit_of b)) e;
  number = ap (λ b. with_param_digit front (digit_of b)) e ∙ (let is : 2 * front + 1 ≡ x = omega arith in is);
}
one_digit x front (suc (suc b)) e half = absurd (omega arith)

half_more : (n width : ℕ) → n / 2 ^ suc width ≡ n / 2 ^ width / 2
half_more n width = ap (λ p. n / p) (let e : 2 ^ suc width ≡ 2 ^ width * 2 = omega (arith, pow-suc 2 width) in e) ∙ sym (div-div-eq-div-mul n (2 ^ width) 2)

digits_behind : (limit width n front : ℕ) → n < limit → front ≡ n / 2 ^ width → bits_from limit front (digits_of width n) ≡ Some n
digits_behind limit zero n front lt is = ap Some (is ∙ div-one n)
digits_behind limit (suc width) n front lt is =
    let x : ℕ = n / 2 ^ width in
    let next : IsNext x front = one_digit x front (x % 2) refl (is ∙ half_more n width) in
    let small : nat_lt x limit ≡ true = (let le : n / 2 ^ width ≤ n = div-le_self n (2 ^ width) in let below : x < limit = omega arith in search (rules, tests)) in
    let d : ℕ = digit_of (x % 2) in
    ap (λ b. if b && nat_lt (with_param_digit front d) limit then bits_from limit (with_param_digit front d) (digits_of width n) else None) next.digit
    ∙ ap (λ m. if nat_lt m limit then bits_from limit m (digits_of width n) else None) next.number
    ∙ ap (λ b. if b then bits_from limit x (digits_of width n) else None) small
    ∙ digits_behind limit width n x lt refl

small_div : (n width : ℕ) → n < 2 ^ width → 0 ≡ n / 2 ^ width
small_div n width lt = sym (div-eq_of_lt lt)

-- a number of so many digits, at most 128
pub bits_read : (line width n : ℕ) → n < 2 ^ width → 1 ≤ width → width ≤ 128 → bits_say line (2 ^ width) (digits_of width n ∷ []) ≡ Ok n
bits_read line width n lt some few =
    let least : nat_le 1 (length (digits_of width n)) ≡ true = ap (nat_le 1) (digits_long width n) ∙ (let le : 1 ≤ width = some in search (rules, tests)) in
    let most : nat_le (length (digits_of width n)) 128 ≡ true = ap (λ k. nat_le k 128) (digits_long width n) ∙ (let le : width ≤ 128 = few in search (rules, tests)) in
    ap (read_value line)
    (ap (λ b. if b && nat_le (length (digits_of width n)) 128 then bits_from (2 ^ width) 0 (digits_of width n) else None) least
    ∙ ap (λ b. if b then bits_from (2 ^ width) 0 (digits_of width n) else None) most
    ∙ digits_behind (2 ^ width) width n 0 lt (small_div n width lt))
