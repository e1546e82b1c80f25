-- What is known where an answer is a value.
use Rattle.std.proofs.Common.{◌≡◌, ◌⊎◌, inl, inr, ℕ, zero, suc, Bool, true, false, Option, None, Some, Result, Ok, Err, List, [], ◌∷◌, ◌++◌, length, slice_get, if◌then◌else◌, refl, sym, ◌∙◌, arith}
use Rattle.std.specs.Option.{option_or}
use Rattle.ice_pads.specs.declared.fault.PinFault.{PinFault}
use Rattle.ice_pads.specs.Constraints.{◌>>=◌}

-- both parts of a chain gave a value
pub bind_ok : {A B : Type 0} (m : Result A PinFault) (next : A → Result B PinFault) (v : B) → m >>= next ≡ Ok v → (x : A) × (m ≡ Ok x) × (next x ≡ Ok v)
bind_ok (Ok x) next v e = (x, refl, e)
bind_ok (Err fault) next v e = absurd (cc)

-- two answers that are the same have the same value
pub ok_same : {A : Type 0} (v w : A) (one two : Result A PinFault) → one ≡ Ok v → two ≡ Ok w → one ≡ two → v ≡ w
ok_same v w one two is be e = let same : Ok v ≡ Ok w = sym is ∙ e ∙ be in cc

-- a value that is answered where a test passes
pub if_ok : {A : Type 0} (b : Bool) (v w : A) (fault : PinFault) → (if b then Ok v else Err fault) ≡ Ok w → (b ≡ true) × (v ≡ w)
if_ok true v w fault e = (refl, cc)
if_ok false v w fault e = absurd (cc)

pub or_some : {A : Type 0} (o p : Option A) (x : A) → option_or o p ≡ Some x → (o ≡ Some x) ⊎ ((o ≡ None) × (p ≡ Some x))
or_some (Some y) p x e = inl e
or_some None p x e = inr (refl, e)

pub if_some : {A : Type 0} (b : Bool) (y x : A) → (if b then Some y else None) ≡ Some x → (b ≡ true) × (y ≡ x)
if_some true y x e = (refl, cc)
if_some false y x e = absurd (cc)

-- an item of a list with one more at its end
pub pushed_at : {A : Type 0} (xs : List A) (y : A) (k : ℕ) (x : A) → slice_get (xs ++ y ∷ []) k ≡ Some x → (slice_get xs k ≡ Some x) ⊎ ((k ≡ length xs) × (y ≡ x))
pushed_at [] y zero x e = inr (refl, cc)
pushed_at [] y (suc k) x e = absurd (cc)
pushed_at (z ∷ xs) y zero x e = inl e
pushed_at (z ∷ xs) y (suc k) x e = further (pushed_at xs y k x e)
  where
    further : (slice_get xs k ≡ Some x) ⊎ ((k ≡ length xs) × (y ≡ x)) → (slice_get xs k ≡ Some x) ⊎ ((suc k ≡ length (z ∷ xs)) × (y ≡ x))
    further (inl at) = inl at
    further (inr last) = let e : k ≡ length xs = last.0 in inr (omega arith, last.1)
