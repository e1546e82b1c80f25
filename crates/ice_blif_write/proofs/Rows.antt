-- The rows that are written for a table are read as this table.
use Rattle.std.proofs.Common.{◌≡◌, ◌≢◌, ℕ, ◌+◌, ◌*◌, ◌/◌, ◌%◌, ◌^◌, ◌<◌, ◌≤◌, ◌==◌, ◌&&◌, ◌||◌, ◌⊎◌, inl, inr, max, zero, suc, Bool, true, false, Some, None, List, [], ◌∷◌, get_or, bit_or, refl, sym, ap, ◌∙◌, arith, rules, tests, pow-suc}
use Rattle.std.specs.Int.{bit_at}
use Rattle.std.specs.List.{AllByRecursion}
use Rattle.std.proofs.lemmas.Bool.{cases_lt}
use Rattle.std.proofs.lemmas.Nat.Bits.{bit_at_or, bit_at-zero, bit_at-lt, bit_at_lowest, bit_at-suc, same_from_bits_below, bit_at_cat_low}
use Rattle.std.proofs.Math.Nat.{div-add-mod, mod-lt}
use Rattle.ice_net.specs.Meaning.{table_bit}
use Rattle.ice_blif.specs.Covers.{covers, bit, row_table, table_of}
use Rattle.ice_blif.specs.State.{OpenCover, with_cover_row}
use Rattle.ice_blif_write.specs.Text.{digit_of, levels_of}

-- ---- which numbers a row covers
digit_covers : (x y : ℕ) → x ≡ y → (digit_of x == 45 || digit_of x == 48 + y) ≡ true
digit_covers x y e = let is : (48 + x == 48 + y) ≡ true = search (rules, tests) in let other : (48 + x == 45) ≡ false = search (rules, tests) in rw (other, is) refl

digit_parts : (x y : ℕ) → x ≢ y → (digit_of x == 45 || digit_of x == 48 + y) ≡ false
digit_parts x y ne = let not_is : (48 + x == 48 + y) ≡ false = search (rules, tests) in let other : (48 + x == 45) ≡ false = search (rules, tests) in rw (other, not_is) refl

pub covers_self : (width j : ℕ) → covers (levels_of width j) j ≡ true
covers_self zero j = refl
covers_self (suc width) j = ap (λ b. b && covers (levels_of width (j / 2)) (j / 2)) (digit_covers (j % 2) (j % 2) refl) ∙ covers_self width (j / 2)

both_false : (b : Bool) → (b && false) ≡ false
both_false true = refl
both_false false = refl

pub covers_other : (width i j : ℕ) → i < 2 ^ width → j < 2 ^ width → i ≢ j → covers (levels_of width j) i ≡ false
covers_other zero i j below below_j ne = absurd (omega arith)
covers_other (suc width) i j below below_j ne = of (covers_other width (i / 2) (j / 2)) (cases_lt (j % 2) (i % 2))
  where
    differ : j % 2 ≢ i % 2 → covers (levels_of (suc width) j) i ≡ false
    differ other = ap (λ b. b && covers (levels_of width (j / 2)) (i / 2)) (digit_parts (j % 2) (i % 2) other)

    same : (i / 2 < 2 ^ width → j / 2 < 2 ^ width → i / 2 ≢ j / 2 → covers (levels_of width (j / 2)) (i / 2) ≡ false) → j % 2 ≡ i % 2 → covers (levels_of (suc width) j) i ≡ false
    same rest e =
        ap (λ b. (digit_of (j % 2) == 45 || digit_of (j % 2) == 48 + i % 2) && b)
        (rest (omega (arith, pow-suc 2 width)) (omega (arith, pow-suc 2 width)) (λ h. ne (omega (arith, h, e))))
        ∙ both_false (digit_of (j % 2) == 45 || digit_of (j % 2) == 48 + i % 2)

    of : (i / 2 < 2 ^ width → j / 2 < 2 ^ width → i / 2 ≢ j / 2 → covers (levels_of width (j / 2)) (i / 2) ≡ false) → (j % 2 < i % 2) ⊎ (i % 2 ≤ j % 2) → covers (levels_of (suc width) j) i ≡ false
    of rest (inl lt) = differ (omega arith)
    of rest (inr le) = more (cases_lt (i % 2) (j % 2))
      where
        more : (i % 2 < j % 2) ⊎ (j % 2 ≤ i % 2) → covers (levels_of (suc width) j) i ≡ false
        more (inl lt) = differ (omega arith)
        more (inr ge) = same rest (omega arith)

-- ---- the bits of a row's table
abbrev number_of_bits : List ℕ → ℕ
number_of_bits [] = 0
number_of_bits (b ∷ bits) = b + 2 * number_of_bits bits

bit_of : (bits : List ℕ) → AllByRecursion (λ b. b < 2) bits → (i : ℕ) → bit_at (number_of_bits bits) i ≡ get_or bits i 0
bit_of [] small i = bit_at-zero i
bit_of (b ∷ bits) small zero = bit_at_lowest (b + 2 * number_of_bits bits) ∙ (let lt : b < 2 = small.0 in let e : (b + 2 * number_of_bits bits) % 2 ≡ b = omega arith in e)
bit_of (b ∷ bits) small (suc i) =
    bit_at-suc (b + 2 * number_of_bits bits) i ∙ ap (λ n. bit_at n i) (let lt : b < 2 = small.0 in let e : (b + 2 * number_of_bits bits) / 2 ≡ number_of_bits bits = omega arith in e) ∙ bit_of bits small.1 i

-- f at so many numbers from k on
abbrev listed : (ℕ → ℕ) → ℕ → ℕ → List ℕ
listed f k zero = []
listed f k (suc left) = f k ∷ listed f (suc k) left

listed_small : (f : ℕ → ℕ) → ((i : ℕ) → f i < 2) → (k left : ℕ) → AllByRecursion (λ b. b < 2) (listed f k left)
listed_small f small k zero = tt
listed_small f small k (suc left) = (small k, listed_small f small (suc k) left)

listed_at : (f : ℕ → ℕ) (k left i : ℕ) → i < left → get_or (listed f k left) i 0 ≡ f (k + i)
listed_at f k zero i lt = absurd (omega arith)
listed_at f k (suc left) zero lt = ap f (let e : k ≡ k + 0 = omega arith in e)
listed_at f k (suc left) (suc i) lt = listed_at f (suc k) left i (omega arith) ∙ ap f (let e : suc k + i ≡ k + suc i = omega arith in e)

bit_small : (b : Bool) → bit b < 2
bit_small true = omega arith
bit_small false = omega arith

table_listed : (row : List ℕ) → row_table row ≡ number_of_bits (listed (λ i. bit (covers row i)) 0 16)
table_listed row = by (λ i. bit (covers row i))
  where
    by : (f : ℕ → ℕ) → (f 15 * 8 + f 14 * 4 + f 13 * 2 + f 12) * 4096 + (f 11 * 8 + f 10 * 4 + f 9 * 2 + f 8) * 256 + (f 7 * 8 + f 6 * 4 + f 5 * 2 + f 4) * 16 + (f 3 * 8 + f 2 * 4 + f 1 * 2 + f 0) ≡ number_of_bits (listed f 0 16)
    by f = omega arith

pub row_bit : (row : List ℕ) (i : ℕ) → i < 16 → bit_at (row_table row) i ≡ bit (covers row i)
row_bit row i lt =
    ap (λ n. bit_at n i) (table_listed row) ∙ bit_of (listed (λ k. bit (covers row k)) 0 16) (listed_small (λ k. bit (covers row k)) (λ k. bit_small (covers row k)) 0 16) i
    ∙ listed_at (λ k. bit (covers row k)) 0 16 i lt ∙ ap (λ k. bit (covers row k)) (let e : 0 + i ≡ i = omega arith in e)

-- ---- the rows so far
-- the rows of the numbers below j give the table's bits below j
pub record IsCovering (table width j : ℕ) (c : OpenCover) : Type 0 where
  pub level : ((c.level ≡ None) × (c.covered ≡ 0)) ⊎ (c.level ≡ Some true)
  pub below : (i : ℕ) → i < j → i < 2 ^ width → bit_at c.covered i ≡ bit_at table i
  pub above : (i : ℕ) → j ≤ i → i < 2 ^ width → bit_at c.covered i ≡ 0

pub none_covered : (table width : ℕ) (c : OpenCover) → c.level ≡ None → c.covered ≡ 0 → IsCovering table width 0 c
none_covered table width c level covered = record {
  level = inl (level, covered);
  below = λ i lt _. absurd (omega arith);
  above = λ i _ _. ap (λ n. bit_at n i) covered ∙ bit_at-zero i;
}

pub row_skipped : (table width j : ℕ) (c : OpenCover) → table_bit table j ≡ false → IsCovering table width j c → IsCovering table width (j + 1) c
row_skipped table width j c no_bit is = record {
  level = is.level;
  below = λ i lt below. of i below (cases_lt i j) lt;
  above = λ i le below. is.above i (omega arith) below;
}
  where
    none : bit_at table j ≡ 0
    none = let few = bit_at-lt table j in let ne : bit_at table j ≢ 1 = search (rules, tests) in omega arith

    of : (i : ℕ) → i < 2 ^ width → (i < j) ⊎ (j ≤ i) → i < j + 1 → bit_at c.covered i ≡ bit_at table i
    of i below (inl lt) next = is.below i lt below
    of i below (inr le) next = let e : i ≡ j = omega arith in is.above i le below ∙ sym (ap (bit_at table) e ∙ none)

pub row_added : (table width j : ℕ) (c : OpenCover) → width ≤ 4 → 2 ^ width ≤ 16 → j < 2 ^ width → table_bit table j ≡ true → IsCovering table width j c → IsCovering table width (j + 1) (with_cover_row c (levels_of width j) true)
row_added table width j c narrow sixteen lt_j has is = record {
  level = inr refl;
  below = λ i lt below. bits i below ∙ of i below (cases_lt i j) lt;
  above = λ i le below. bits i below ∙ ap (λ x. max x (bit (covers row i))) (is.above i (omega arith) below)
      ∙ ap (λ b. max 0 (bit b)) (covers_other width i j below lt_j (omega arith));
}
  where
    row : List ℕ
    row = levels_of width j

    bits : (i : ℕ) → i < 2 ^ width → bit_at (bit_or c.covered (row_table row)) i ≡ max (bit_at c.covered i) (bit (covers row i))
    bits i below = bit_at_or c.covered (row_table row) i ∙ ap (max (bit_at c.covered i)) (row_bit row i (omega arith))

    one : bit_at table j ≡ 1
    one = search (rules, tests)

    max_zero : (x : ℕ) → max x 0 ≡ x
    max_zero x = omega arith

    of : (i : ℕ) → i < 2 ^ width → (i < j) ⊎ (j ≤ i) → i < j + 1 → max (bit_at c.covered i) (bit (covers row i)) ≡ bit_at table i
    of i below (inl lt) next =
        ap (λ b. max (bit_at c.covered i) (bit b)) (covers_other width i j below lt_j (omega arith)) ∙ max_zero (bit_at c.covered i) ∙ is.below i lt below
    of i below (inr le) next =
        let e : i ≡ j = omega arith in
        ap (λ x. max x (bit (covers row i))) (is.above i le below) ∙ ap (λ k. max 0 (bit (covers row k))) e ∙ ap (λ b. max 0 (bit b)) (covers_self width j) ∙ sym (ap (bit_at table) e ∙ one)

-- all rows give the table
pub table_covered : (table width : ℕ) (c : OpenCover) → table < 2 ^ (2 ^ width) → IsCovering table width (2 ^ width) c → table_of width c.level c.covered ≡ table
table_covered table width c fits is = of is.level
  where
    k : ℕ
    k = 2 ^ width

    zero_fits : 0 < 2 ^ k
    zero_fits = omega arith

    of : ((c.level ≡ None) × (c.covered ≡ 0)) ⊎ (c.level ≡ Some true) → table_of width c.level c.covered ≡ table
    of (inl none) =
        ap (λ level. table_of width level c.covered) none.0
        ∙ same_from_bits_below k 0 table zero_fits fits (λ i lt. bit_at-zero i ∙ sym (bit_at-zero i) ∙ ap (λ n. bit_at n i) (sym none.1) ∙ is.below i lt lt)
    of (inr on) =
        ap (λ level. table_of width level c.covered) on
        ∙ same_from_bits_below k (c.covered % 2 ^ k) table (mod-lt c.covered zero_fits) fits
        (λ i lt. sym (bit_at_cat_low (c.covered / 2 ^ k) k (c.covered % 2 ^ k) i lt)
        ∙ ap (λ n. bit_at n i) (let e : c.covered / 2 ^ k * 2 ^ k + c.covered % 2 ^ k ≡ c.covered = omega (arith, div-add-mod c.covered (2 ^ k)) in e) ∙ is.below i lt lt)
