-- Laws of tests that are joined, beside those of std's `lemmas.Bool` (`and_parts`, `and_cases`, `or_parts`, `or_cases`, `and_left`, `or_right` and others).
use Rattle.std.proofs.Common.{◌≡◌, ◌≤◌, cond, arith, Bool, true, false, not, refl, sym, true≢false, ◌||◌}
pub use Rattle.std.proofs.Math.Bool.{or_assoc, and_assoc, or-true as or_true, or-false as or_false, and-true as and_true, and-false as and_false}

pub not_true : (a : Bool) → not a ≡ true → a ≡ false
not_true false e = refl
not_true true e = absurd (true≢false (sym e))

-- where one test implies another
pub implied : (a b : Bool) → (not a || b) ≡ true → a ≡ true → b ≡ true
implied true b e is = e
implied false b e is = absurd (true≢false (sym is))

pub not_implied : (a b : Bool) → (not a || b) ≡ false → (a ≡ true) × (b ≡ false)
not_implied true b e = (refl, e)
not_implied false b e = absurd (true≢false e)

-- a test counts for one at most
pub one_bound : (b : Bool) → cond b 1 0 ≤ 1
one_bound true = omega arith
one_bound false = omega arith

pub both_true : (a b : Bool) → (a ≡ true → b ≡ true) → (b ≡ true → a ≡ true) → a ≡ b
both_true true b f g = sym (f refl)
both_true false true f g = g refl
both_true false false f g = refl
