-- What is known of the parts of an option that is there.
use Rattle.std.proofs.Common.{◌≡◌, Bool, true, false, refl, ap, Option, None, Some, option_map, if◌then◌else◌}
use Rattle.std.specs.Option.{option_and_then}

-- where a mapped value is there, the value is
pub option_map_some : {A B : Type 0} (f : A → B) (o : Option A) (y : B) → option_map f o ≡ Some y → (x : A) × (o ≡ Some x) × (f x ≡ y)
option_map_some f None y h = cc
option_map_some f (Some x) y h = (x, refl, cc)

-- where a chain gives a value, its first part does
pub and_then_some : {A B : Type 0} (f : A → Option B) (o : Option A) (y : B) → option_and_then f o ≡ Some y → (x : A) × (o ≡ Some x) × (f x ≡ Some y)
and_then_some f None y e = absurd (cc)
and_then_some f (Some x) y e = (x, refl, e)

-- functions that agree make the same of a value that may be missing
pub option_map_same : {A B : Type 0} (f g : A → B) → ((x : A) → f x ≡ g x) → (o : Option A) → option_map f o ≡ option_map g o
option_map_same f g same None = refl
option_map_same f g same (Some x) = ap Some (same x)

-- where a value is given if a test passes, the test passes
pub test_passes : {A : Type 0} (b : Bool) (o : Option A) (x : A) → (if b then o else None) ≡ Some x → (b ≡ true) × (o ≡ Some x)
test_passes true o x e = (refl, e)
test_passes false o x e = absurd (cc)

-- where a value is given unless a test passes, the test fails
pub test_fails : {A : Type 0} (b : Bool) (o : Option A) (x : A) → (if b then None else o) ≡ Some x → (b ≡ false) × (o ≡ Some x)
test_fails false o x e = (refl, e)
test_fails true o x e = absurd (cc)
