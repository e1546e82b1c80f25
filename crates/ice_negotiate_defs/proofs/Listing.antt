-- Lists of wires and of trees for the log of a round.
use Rattle.std.proofs.Common.{◌≡◌, ℕ, zero, suc, List, [], ◌∷◌, ◌++◌, Some, length, slice_get, refl, ap, inl, inr, ◌⊎◌, ◌<◌, arith}

-- an element behind an append is an old one or the new one
pub pushed : {X : Type 0} (list : List X) (last : X) (k : ℕ) (x : X) → slice_get (list ++ last ∷ []) k ≡ Some x → (slice_get list k ≡ Some x) ⊎ ((k ≡ length list) × (last ≡ x))
pushed [] last zero x at = inr (refl, (cc))
pushed [] last (suc k) x at = absurd (cc)
pushed (y ∷ list) last zero x at = inl at
pushed (y ∷ list) last (suc k) x at = elim (pushed list last k x at) [
  | inl old ↦ inl old
  | inr new ↦ inr (ap suc new.0, new.1)
]

pub length_push : {X : Type 0} (list : List X) (last : X) → length (list ++ last ∷ []) ≡ suc (length list)
length_push [] last = refl
length_push (x ∷ list) last = ap suc (length_push list last)

pub last_get : {X : Type 0} (list : List X) (last : X) → slice_get (list ++ last ∷ []) (length list) ≡ Some last
last_get [] last = refl
last_get (x ∷ list) last = last_get list last

-- there is an element at a place that is low enough
pub there_at : {X : Type 0} (list : List X) (n : ℕ) → n < length list → (x : X) × (slice_get list n ≡ Some x)
there_at [] n lt = absurd (omega arith)
there_at (x ∷ list) zero lt = (x, refl)
there_at (x ∷ list) (suc n) lt = there_at list n (omega (arith, lt))
