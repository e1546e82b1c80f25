-- What is found in lists of keys and values, and in lists of equal items.
use Rattle.std.proofs.Common.{◌≡◌, ℕ, zero, suc, Bool, true, false, cond, None, Some, List, [], ◌∷◌, ◌++◌, get_or, replicate, refl, sym, ap, subst}
use Rattle.std.specs.Prelude.{All}
use Rattle.std.specs.Map.{lookup}
use Rattle.std.proofs.lemmas.List.Elements.{All-head, All-tail}
use Rattle.std.proofs.lemmas.Option.{none-some, same_Some}

-- what holds of all values holds of one that is found
pub lookup_all : {K V : Type 0} (P : V → Type 0) (test : K → Bool) (entries : List (K × V)) → All (λ (e : K × V). P e.1) entries → (v : V) → lookup test entries ≡ Some v → P v
lookup_all P test [] all v e = cc e
lookup_all {K} {V} P test (x ∷ entries) all v e = by (test x.0) (λ f. lookup_all P test entries (All-tail (λ (y : K × V). P y.1) x entries all) v f) e
  where
    by : (b : Bool) → (lookup test entries ≡ Some v → P v) → cond b (Some x.1) (lookup test entries) ≡ Some v → P v
    by true later f = subst P (same_Some x.1 v f) (All-head (λ (y : K × V). P y.1) x entries all)
    by false later f = later f

-- what is found in a list stays found where items are added
pub lookup_kept : {K V : Type 0} (test : K → Bool) (rows more : List (K × V)) (v : V) → lookup test rows ≡ Some v → lookup test (rows ++ more) ≡ Some v
lookup_kept test [] more v e = absurd (none-some v e)
lookup_kept test (row ∷ rows) more v e = by (test row.0) e (lookup_kept test rows more v)
  where
    by : (b : Bool) → cond b (Some row.1) (lookup test rows) ≡ Some v → (lookup test rows ≡ Some v → lookup test (rows ++ more) ≡ Some v) → cond b (Some row.1) (lookup test (rows ++ more)) ≡ Some v
    by true is later = is
    by false is later = later is

-- and an item that is added is found where none was
pub lookup_added : {K V : Type 0} (test : K → Bool) (rows : List (K × V)) (row : K × V) → lookup test rows ≡ None → test row.0 ≡ true → lookup test (rows ++ row ∷ []) ≡ Some row.1
lookup_added test [] row none passes = ap (λ b. cond b (Some row.1) None) passes
lookup_added test (first ∷ rows) row none passes = by (test first.0) none (λ later. lookup_added test rows row later passes)
  where
    by : (b : Bool) → cond b (Some first.1) (lookup test rows) ≡ None → (lookup test rows ≡ None → lookup test (rows ++ row ∷ []) ≡ Some row.1) → cond b (Some first.1) (lookup test (rows ++ row ∷ [])) ≡ Some row.1
    by true is later = absurd (none-some first.1 (sym is))
    by false is later = later is

-- each item of a list of equal ones
pub all_low : (n i : ℕ) → get_or (replicate n false) i false ≡ false
all_low zero i = refl
all_low (suc n) zero = refl
all_low (suc n) (suc i) = all_low n i
