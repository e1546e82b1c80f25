-- What is found among the first rows of each key is the first row of the key.
use Rattle.std.proofs.Common.{◌≡◌, Bool, true, false, cond, List, [], ◌∷◌, ◌++◌, Option, None, Some, refl, sym, ap, ◌∙◌, subst}
use Rattle.std.specs.Map.{lookup}
use Rattle.std.specs.Option.{option_or}
use Rattle.ice_chip.specs.Indices.{put_first, with_first, firsts}

or_none : {X : Type 0} (o : Option X) → option_or o None ≡ o
or_none None = refl
or_none (Some x) = refl

or_assoc : {X : Type 0} (a b c : Option X) → option_or (option_or a b) c ≡ option_or a (option_or b c)
or_assoc None b c = refl
or_assoc (Some x) b c = refl

pub lookup-append : {K V : Type 0} (test : K → Bool) (xs ys : List (K × V)) → lookup test (xs ++ ys) ≡ option_or (lookup test xs) (lookup test ys)
lookup-append test [] ys = refl
lookup-append test (x ∷ xs) ys = by (test x.0) (lookup-append test xs ys)
  where
    by : (b : Bool) → lookup test (xs ++ ys) ≡ option_or (lookup test xs) (lookup test ys)
        → cond b (Some x.1) (lookup test (xs ++ ys)) ≡ option_or (cond b (Some x.1) (lookup test xs)) (lookup test ys)
    by true e = refl
    by false e = e

module _ {K V : Type 0} (eq : K → K → Bool) (same : (a b : K) → eq a b ≡ true → a ≡ b) where
  lookup-put_first : (k : K) (entries : List (K × V)) (row : K × V) (o : Option V) → lookup (eq row.0) entries ≡ o
      → lookup (eq k) (put_first entries row o) ≡ option_or (lookup (eq k) entries) (lookup (eq k) (row ∷ []))
  lookup-put_first k entries row None e = lookup-append (eq k) entries (row ∷ [])
  lookup-put_first k entries row (Some old) e = by (eq k row.0) refl
    where
      by : (b : Bool) → eq k row.0 ≡ b → lookup (eq k) entries ≡ option_or (lookup (eq k) entries) (cond b (Some row.1) None)
      by false is = sym (or_none (lookup (eq k) entries))
      by true is =
          let found : lookup (eq k) entries ≡ Some old = subst (λ key. lookup (eq key) entries ≡ Some old) (sym (same k row.0 is)) e in
          found ∙ ap (λ o. option_or o (Some row.1)) (sym found)

  pub lookup-firsts : (k : K) (entries rows : List (K × V)) → lookup (eq k) (firsts eq entries rows) ≡ option_or (lookup (eq k) entries) (lookup (eq k) rows)
  lookup-firsts k entries [] = sym (or_none (lookup (eq k) entries))
  lookup-firsts k entries (row ∷ rows) =
      lookup-firsts k (with_first eq entries row) rows
      ∙ ap (λ o. option_or o (lookup (eq k) rows)) (lookup-put_first k entries row (lookup (eq row.0) entries) refl)
      ∙ or_assoc (lookup (eq k) entries) (lookup (eq k) (row ∷ [])) (lookup (eq k) rows)
      ∙ ap (option_or (lookup (eq k) entries)) (sym (lookup-append (eq k) (row ∷ []) rows))
