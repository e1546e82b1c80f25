-- Ranges of numbers.
use Rattle.std.proofs.Common.{◌≡◌, ℕ, ◌+◌, ◌++◌, ◌∷◌, [], zero, suc, ap, ◌∙◌, arith}
use Rattle.std.specs.List.{range_with_len}

pub range_suc : (n a : ℕ) → range_with_len a (suc n) ≡ range_with_len a n ++ (a + n) ∷ []
range_suc zero a = let e : a ≡ a + 0 = omega arith in ap (λ x. x ∷ []) e
range_suc (suc n) a = let e : a + 1 + n ≡ a + suc n = omega arith in ap (λ l. a ∷ l) (range_suc n (a + 1) ∙ ap (λ x. range_with_len (a + 1) n ++ x ∷ []) e)
