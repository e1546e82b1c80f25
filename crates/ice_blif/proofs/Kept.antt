-- What each step of reading keeps, all of it keeps.
use Rattle.std.proofs.Common.{◌≡◌, Bool, true, false, Result, Ok, Err, IfOk, if◌then◌else◌, refl}
use Rattle.ice_blif.specs.declared.fault.BlifFault.{BlifFault}
use Rattle.ice_blif.specs.Cells.{◌>>=◌}

pub bind_keeps : {A B : Type 0} (P : A → Type 0) (Q : B → Type 0) (x : Result A BlifFault) (f : A → Result B BlifFault) → IfOk x P → ((a : A) → P a → IfOk (f a) Q) → IfOk (x >>= f) Q
bind_keeps P Q (Ok a) f p h = h a p
bind_keeps P Q (Err fault) f p h = tt

pub either : {A : Type 0} (P : A → Type 0) (b : Bool) (x y : Result A BlifFault) → IfOk x P → IfOk y P → IfOk (if b then x else y) P
either P true x y p q = p
either P false x y p q = q

pub any_ok : {A : Type 0} (x : Result A BlifFault) → IfOk x (λ a. Unit {0})
any_ok (Ok a) = tt
any_ok (Err fault) = tt

-- what a value keeps is also what less is asked of
pub weaker : {A : Type 0} (P Q : A → Type 0) (x : Result A BlifFault) → ((a : A) → P a → Q a) → IfOk x P → IfOk x Q
weaker P Q (Ok a) h p = h a p
weaker P Q (Err fault) h p = tt

-- what a value that goes on was made of
pub record Bound {A B : Type 0} (x : Result A BlifFault) (f : A → Result B BlifFault) (b : B) : Type 0 where
  pub value : A
  pub made : x ≡ Ok value
  pub goes_on : f value ≡ Ok b

pub bound : {A B : Type 0} (x : Result A BlifFault) (f : A → Result B BlifFault) (b : B) → (x >>= f) ≡ Ok b → Bound x f b
bound (Ok a) f b h = record { value = a; made = refl; goes_on = h }
bound (Err e) f b h = absurd (cc)
