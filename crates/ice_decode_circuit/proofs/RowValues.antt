-- The values of rows, compared with the bits of a tile.
use Rattle.std.proofs.Common.{◌≡◌, ℕ, zero, suc, ◌+◌, ◌<◌, ◌≤◌, Bool, true, false, List, [], ◌∷◌, refl, ap, map, length, get_or, drop, arith}
use Rattle.std.specs.Prelude.{◌&&◌}
use Rattle.std.specs.Bool.{beq}
use Rattle.std.specs.List.{list_any}
use Rattle.std.specs.Cmp.Lexicographic.{pointwise}
use Rattle.ice_base.specs.declared.bit.BitAt.{BitAt}

module _ (f : BitAt → Bool) where
  -- lists of other lengths don't agree
  pub other_length : (values : List Bool) (bits : List BitAt) → (length values ≡ length bits → ⊥) → pointwise beq values (map f bits) ≡ false
  other_length [] [] ne = absurd (ne refl)
  other_length [] (b ∷ bits) ne = refl
  other_length (v ∷ values) [] ne = refl
  other_length (v ∷ values) (b ∷ bits) ne = by (beq v (f b)) (other_length values bits (λ e. ne (ap suc e)))
    where
      by : (x : Bool) → pointwise beq values (map f bits) ≡ false → (x && pointwise beq values (map f bits)) ≡ false
      by true e = e
      by false e = refl

  after : (values : List Bool) (bits : List BitAt) (k : ℕ) (d : Bool) (b : BitAt) → k < length values → k < length bits
      → pointwise beq (drop k values) (map f (drop k bits)) ≡ (beq (get_or values k d) (f (get_or bits k b)) && pointwise beq (drop (suc k) values) (map f (drop (suc k) bits)))
  after [] bits k d b lt lt' = absurd (omega arith)
  after (v ∷ values) [] k d b lt lt' = absurd (omega arith)
  after (v ∷ values) (x ∷ bits) zero d b lt lt' = refl
  after (v ∷ values) (x ∷ bits) (suc k) d b lt lt' = after values bits k d b (omega arith) (omega arith)

  pub same_next : (values : List Bool) (bits : List BitAt) (k : ℕ) (d : Bool) (b : BitAt) → k < length values → k < length bits
      → pointwise beq (drop k values) (map f (drop k bits)) ≡ (beq (get_or values k d) (f (get_or bits k b)) && pointwise beq (drop (k + 1) values) (map f (drop (k + 1) bits)))
  same_next values bits k d b lt lt' = let one : k + 1 ≡ suc k = omega arith in rw one (after values bits k d b lt lt')

  pub same_none : (values : List Bool) (bits : List BitAt) (k : ℕ) → length values ≡ length bits → length values ≤ k → pointwise beq (drop k values) (map f (drop k bits)) ≡ true
  same_none [] [] zero e le = refl
  same_none [] [] (suc k) e le = refl
  same_none [] (b ∷ bits) k e le = absurd (omega arith)
  same_none (v ∷ values) [] k e le = absurd (omega arith)
  same_none (v ∷ values) (b ∷ bits) zero e le = absurd (omega arith)
  same_none (v ∷ values) (b ∷ bits) (suc k) e le = same_none values bits k (omega arith) (omega arith)

-- no bit is 1 where none is
pub none_on : {X : Type 0} (xs : List X) → list_any (λ v. v) (map (λ (x : X). false) xs) ≡ false
none_on [] = refl
none_on (x ∷ xs) = none_on xs
