-- What holds of a value that two steps make, if there is one.
use Rattle.std.proofs.Common.{◌≡◌, IfOk, IfSome, Option, None, Some, option_map, option_and_then, Result, Ok, Err, refl, subst}
use Rattle.ice_chip.specs.declared.fault.ChipFault.{ChipFault}
use Rattle.ice_chip_read.specs.Faults.{◌>>=◌}

pub bind : {A B : Type 0} (P : B → Type 0) (m : Result A ChipFault) (f : A → Result B ChipFault) → ((x : A) → m ≡ Ok x → IfOk (f x) P) → IfOk (m >>= f) P
bind P (Ok x) f h = h x refl
bind P (Err e) f h = tt

pub held : {A : Type 0} (P : A → Type 0) (m : Result A ChipFault) (x : A) → m ≡ Ok x → IfOk m P → P x
held P m x e h = subst (λ n. IfOk n P) e h

-- with what holds of the first step's value
pub bind_meeting : {A B : Type 0} (P : B → Type 0) (Q : A → Type 0) (m : Result A ChipFault) (f : A → Result B ChipFault) → IfOk m Q → ((x : A) → Q x → IfOk (f x) P) → IfOk (m >>= f) P
bind_meeting P Q (Ok x) f q h = h x q
bind_meeting P Q (Err e) f q h = tt

pub some_then : {A B : Type 0} (P : B → Type 0) (Q : A → Type 0) (o : Option A) (f : A → Option B) → IfSome o Q → ((x : A) → Q x → IfSome (f x) P) → IfSome (option_and_then f o) P
some_then P Q None f q h = tt
some_then P Q (Some x) f q h = h x q

pub some_mapped : {A B : Type 0} (P : B → Type 0) (Q : A → Type 0) (o : Option A) (f : A → B) → IfSome o Q → ((x : A) → Q x → P (f x)) → IfSome (option_map f o) P
some_mapped P Q None f q h = tt
some_mapped P Q (Some x) f q h = h x q

pub some_any : {A : Type 0} (o : Option A) → IfSome o (λ x. Unit {0})
some_any None = tt
some_any (Some x) = tt
