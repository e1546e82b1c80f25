-- A kind has the functions of all numbers below a number, or lacks one of them.
use Rattle.std.proofs.Common.{◌≡◌, add-one, ℕ, zero, suc, ◌+◌, ◌<◌, Bool, true, false, List, refl, sym, subst, ap, ◌∙◌, true≢false, inl, inr, arith, ◌&&◌}
use Rattle.ice_chip.specs.Database.{FunctionRow}
use Rattle.ice_chip.specs.LacksFunction.{has_function, has_each}
use Rattle.ice_chip.specs.declared.rows.TileKind.{TileKind}
use Rattle.std.proofs.lemmas.Bool.{and_parts, and_cases}
use Rattle.ice_chip_names.proofs.Prefixes.{below_or_last}

and_false : (a b : Bool) → b ≡ false → (a && b) ≡ false
and_false true b e = e
and_false false b e = refl

false_and : (a b : Bool) → a ≡ false → (a && b) ≡ false
false_and true b e = absurd (true≢false e)
false_and false b e = refl

-- one is lacking
pub lacks_one : (kind : TileKind) (name : ℕ → List ℕ) (n m : ℕ) (fs : List FunctionRow) → n < m → has_function kind (name n) fs ≡ false → has_each kind name m fs ≡ false
lacks_one kind name n zero fs lt none = absurd (omega arith)
lacks_one kind name n (suc m) fs lt none = elim (below_or_last n m (omega arith)) [
  | inl below ↦ false_and (has_each kind name m fs) (has_function kind (name m) fs) (lacks_one kind name n m fs below none)
  | inr last ↦ and_false (has_each kind name m fs) (has_function kind (name m) fs) (subst (λ k. has_function kind (name k) fs ≡ false) last none)
]

-- one more is there
pub one_more : (kind : TileKind) (name : ℕ → List ℕ) (n : ℕ) (fs : List FunctionRow) → has_each kind name n fs ≡ true → has_function kind (name n) fs ≡ true → has_each kind name (n + 1) fs ≡ true
one_more kind name n fs all here = rw add-one (ap (λ b. b && has_function kind (name n) fs) all ∙ here)

-- each is there
pub has_one : (kind : TileKind) (name : ℕ → List ℕ) (n m : ℕ) (fs : List FunctionRow) → n < m → has_each kind name m fs ≡ true → has_function kind (name n) fs ≡ true
has_one kind name n zero fs lt all = absurd (omega arith)
has_one kind name n (suc m) fs lt all =
    let both = and_parts (has_each kind name m fs) (has_function kind (name m) fs) all in
    elim (below_or_last n m (omega arith)) [
      | inl below ↦ has_one kind name n m fs below both.0
      | inr last ↦ subst (λ k. has_function kind (name k) fs ≡ true) (sym last) both.1
    ]

-- which one is lacking
pub lacking_number : (kind : TileKind) (name : ℕ → List ℕ) (m : ℕ) (fs : List FunctionRow) → has_each kind name m fs ≡ false → (n : ℕ) × (n < m) × (has_function kind (name n) fs ≡ false)
lacking_number kind name zero fs none = absurd (true≢false none)
lacking_number kind name (suc m) fs none = elim (and_cases (has_each kind name m fs) (has_function kind (name m) fs) none) [
  | inl before ↦ let found = lacking_number kind name m fs before in (found.0, omega arith, found.2)
  | inr here ↦ (m, omega arith, here)
]
