-- The first line feed of a piece.
use Rattle.std.proofs.Common.{◌≡◌, ℕ, ◌<◌, ◌≤◌, ◌+◌, ◌-◌, zero, suc, List, [], ◌∷◌, ◌++◌, Some, None, length, length-drop, take, drop, sym, ap, subst, ◌∙◌, arith}
use Rattle.std.proofs.lemmas.Bool.{eqb-true, eq-eqb}
use Rattle.std.proofs.lemmas.List.{take_all}
use Rattle.memchr.specs.Find.{Nowhere, Passes, IsFirstByte, is_byte}
use Rattle.ice_base.specs.Lines.{IsLine}

line_in_front : (piece : List ℕ) (k : ℕ) → k ≤ length piece → Nowhere (Passes (is_byte 10) piece) 0 k → IsLine (take k piece)
line_in_front piece zero le h = tt
line_in_front [] (suc k) le h = tt
line_in_front (b ∷ bs) (suc k) le h =
    (λ is. h 0 (omega arith) (omega arith) (eq-eqb b 10 is), line_in_front bs k (omega arith) (λ j low high passes. h (suc j) (omega arith) (omega arith) passes))

split_at : (piece : List ℕ) (k : ℕ) → k < length piece → Passes (is_byte 10) piece k → piece ≡ take k piece ++ 10 ∷ drop (suc k) piece
split_at [] k lt passes = absurd (omega arith)
split_at (b ∷ bs) zero lt passes = ap (λ x. x ∷ bs) (eqb-true b 10 passes)
split_at (b ∷ bs) (suc k) lt passes = ap (λ xs. b ∷ xs) (split_at bs k (omega arith) passes)

module _ (piece : List ℕ) where
  -- what stands in front of it is a line
  pub line_before : (k : ℕ) → IsFirstByte (is_byte 10) piece (Some k) → IsLine (take k piece)
  line_before k h = let first = h.0 in line_in_front piece k (omega (arith, first.high)) first.before

  -- the piece is what stands in front of it, the line feed, and what stands behind it
  pub feed_between : (k : ℕ) → IsFirstByte (is_byte 10) piece (Some k) → piece ≡ take k piece ++ 10 ∷ take (length piece - (k + 1)) (drop (k + 1) piece)
  feed_between k h =
      let first = h.0 in
      let after : suc k ≡ k + 1 = omega arith in
      let left = length-drop (k + 1) piece in
      let rest : take (length piece - (k + 1)) (drop (k + 1) piece) ≡ drop (k + 1) piece = take_all _ _ (omega arith) in
      split_at piece k first.high h.1 ∙ ap (λ n. take k piece ++ 10 ∷ drop n piece) after ∙ ap (λ xs. take k piece ++ 10 ∷ xs) (sym rest)

  -- where there is none, the whole is a line
  pub line_whole : IsFirstByte (is_byte 10) piece None → IsLine piece
  line_whole h = subst IsLine (take_all (length piece) piece (omega arith)) (line_in_front piece (length piece) (omega arith) h)
