-- The bits of a number that levels make.
use Rattle.std.proofs.Common.{◌≡◌, ℕ, zero, suc, ◌+◌, ◌*◌, ◌/◌, ◌%◌, Bool, true, false, cond, List, [], ◌∷◌, map, get_or, refl, ap, ◌∙◌, arith}
use Rattle.std.specs.Prelude.{◌==◌}
use Rattle.std.proofs.lemmas.Nat.Bits.{bit_at-suc, bit_at-zero, bit_at_lowest}
use Rattle.ice_net.specs.Meaning.{number_of, table_bit}

lowest : (x : Bool) (n : ℕ) → ((cond x 1 0 + 2 * n) % 2 == 1) ≡ x
lowest true n = let e : (1 + 2 * n) % 2 ≡ 1 = omega arith in rw e refl
lowest false n = let e : (0 + 2 * n) % 2 ≡ 0 = omega arith in rw e refl

others : (x : Bool) (n : ℕ) → (cond x 1 0 + 2 * n) / 2 ≡ n
others true n = omega arith
others false n = omega arith

-- bit j of the number is level j
pub bits_are : (xs : List Bool) (j : ℕ) → table_bit (number_of xs) j ≡ get_or xs j false
bits_are [] j = ap (λ b. b == 1) (bit_at-zero j)
bits_are (x ∷ xs) zero = ap (λ b. b == 1) (bit_at_lowest (number_of (x ∷ xs))) ∙ lowest x (number_of xs)
bits_are (x ∷ xs) (suc j) = ap (λ b. b == 1) (bit_at-suc (number_of (x ∷ xs)) j) ∙ ap (λ m. table_bit m j) (others x (number_of xs)) ∙ bits_are xs j

-- what a list of sixteen has at a number of four digits
pub entry_is : (e : ℕ → Bool) (a b c d : Bool)
    → get_or (map e (0 ∷ 1 ∷ 2 ∷ 3 ∷ 4 ∷ 5 ∷ 6 ∷ 7 ∷ 8 ∷ 9 ∷ 10 ∷ 11 ∷ 12 ∷ 13 ∷ 14 ∷ 15 ∷ [])) (number_of (a ∷ b ∷ c ∷ d ∷ [])) false
    ≡ e (number_of (a ∷ b ∷ c ∷ d ∷ []))
entry_is e false false false false = refl
entry_is e true false false false = refl
entry_is e false true false false = refl
entry_is e true true false false = refl
entry_is e false false true false = refl
entry_is e true false true false = refl
entry_is e false true true false = refl
entry_is e true true true false = refl
entry_is e false false false true = refl
entry_is e true false false true = refl
entry_is e false true false true = refl
entry_is e true true false true = refl
entry_is e false false true true = refl
entry_is e true false true true = refl
entry_is e false true true true = refl
entry_is e true true true true = refl
