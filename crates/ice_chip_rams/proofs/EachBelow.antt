-- All numbers below a number pass a test, or one fails.
use Rattle.std.proofs.Common.{◌≡◌, add-one, ℕ, zero, suc, ◌+◌, ◌<◌, Bool, true, false, refl, subst, ap, ◌∙◌, true≢false, inl, inr, arith, ◌&&◌}
use Rattle.ice_chip_names.proofs.Prefixes.{below_or_last}
use Rattle.ice_chip_rams.specs.Sites.{each_below}

and_false : (a b : Bool) → b ≡ false → (a && b) ≡ false
and_false true b e = e
and_false false b e = refl

false_and : (a b : Bool) → a ≡ false → (a && b) ≡ false
false_and true b e = absurd (true≢false e)
false_and false b e = refl

-- one fails
pub fails_one : (test : ℕ → Bool) (n m : ℕ) → n < m → test n ≡ false → each_below test m ≡ false
fails_one test n zero lt fails = absurd (omega arith)
fails_one test n (suc m) lt fails = elim (below_or_last n m (omega arith)) [
  | inl below ↦ false_and (each_below test m) (test m) (fails_one test n m below fails)
  | inr last ↦ and_false (each_below test m) (test m) (subst (λ k. test k ≡ false) last fails)
]

-- one more passes
pub one_more : (test : ℕ → Bool) (n : ℕ) → each_below test n ≡ true → test n ≡ true → each_below test (n + 1) ≡ true
one_more test n all here = rw add-one (ap (λ b. b && test n) all ∙ here)
