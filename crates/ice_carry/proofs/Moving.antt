-- Moves, piece by piece.
use Rattle.std.proofs.Common.{◌≡◌, ℕ, suc, ◌+◌, ◌-◌, ◌<◌, List, ◌++◌, append_assoc, ap, sym, ◌∙◌, arith}
use Rattle.std.specs.List.{range_with_len, flat_map}

pub piece_more : (f : ℕ → List ℕ) (k n : ℕ) → k < n → flat_map f (range_with_len k (n - k)) ≡ f k ++ flat_map f (range_with_len (k + 1) (n - (k + 1)))
piece_more f k n lt = ap (λ m. flat_map f (range_with_len k m)) (let e : n - k ≡ suc (n - (k + 1)) = omega arith in e)

pub moved_more : (f : ℕ → List ℕ) (k n : ℕ) (old new xs : List ℕ) → k < n → xs ≡ f k → new ≡ old ++ xs
    → new ++ flat_map f (range_with_len (k + 1) (n - (k + 1))) ≡ old ++ flat_map f (range_with_len k (n - k))
moved_more f k n old new xs lt e g =
    ap (λ ys. ys ++ flat_map f (range_with_len (k + 1) (n - (k + 1)))) (g ∙ ap (λ ys. old ++ ys) e) ∙ append_assoc old (f k) (flat_map f (range_with_len (k + 1) (n - (k + 1))))
    ∙ ap (λ ys. old ++ ys) (sym (piece_more f k n lt))
