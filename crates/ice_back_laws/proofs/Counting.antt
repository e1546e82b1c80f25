-- How often a signal stands in a list that is made of others.
use Rattle.std.proofs.Common.{◌≡◌, ◌⊎◌, ℕ, suc, ◌+◌, ◌<◌, ◌≤◌, ◌==◌, Bool, true, false, Option, Some, List, [], ◌∷◌, ◌++◌, length, map, inl, inr, refl, sym, ap, subst, nat_lt, eqb-true, arith, rules, tests}
use Rattle.std.specs.List.{flat_map}
use Rattle.ice_base.specs.declared.number.SignalNo.{SignalNo}
use Rattle.ice_base_values.specs.Order.{At}
use Rattle.ice_check.specs.Tables.{once, times}
use Rattle.ice_check.proofs.Places.{times_append}
use Rattle.ice_back_laws.specs.Numbers.{signal}

-- a count of at most 1, which is 0 unless P holds
abbrev pub IsRare : ℕ → Type 0 → Type 0
IsRare count P = (count ≡ 0) ⊎ (P × (count ≤ 1))

pub rare_none : (P : Type 0) → IsRare 0 P
rare_none P = inl refl

pub rare_weaker : (count : ℕ) (P Q : Type 0) → (P → Q) → IsRare count P → IsRare count Q
rare_weaker count P Q to (inl none) = inl none
rare_weaker count P Q to (inr (p, few)) = inr (to p, few)

pub rare_join : (a b : ℕ) (P Q : Type 0) → IsRare a P → IsRare b Q → (P → Q → ⊥) → IsRare (a + b) (P ⊎ Q)
rare_join a b P Q (inl e) (inl f) apart = inl (omega (arith, e, f))
rare_join a b P Q (inl e) (inr (q, f)) apart = inr (inr q, omega (arith, e, f))
rare_join a b P Q (inr (p, e)) (inl f) apart = inr (inl p, omega (arith, e, f))
rare_join a b P Q (inr (p, e)) (inr (q, f)) apart = absurd (apart p q)

pub rare_few : (count : ℕ) (P : Type 0) → IsRare count P → count ≤ 1
rare_few count P (inl none) = omega (arith, none)
rare_few count P (inr (p, few)) = few

pub not_many : (count : ℕ) → count ≤ 1 → nat_lt 1 count ≡ false
not_many count few = search (rules, tests, arith)

-- ---- one signal
pub once_at : (m s : ℕ) → IsRare (once (m == s)) (m ≡ s)
once_at m s = by (m == s) refl
  where
    by : (b : Bool) → (m == s) ≡ b → IsRare (once (m == s)) (m ≡ s)
    by true e = inr (eqb-true m s e, (let f : once (m == s) ≡ 1 = ap once e in omega (arith, f)))
    by false e = inl (ap once e)

pub times_one : (m s : ℕ) → IsRare (times s (Some (signal m) ∷ [])) (m ≡ s)
times_one m s = let e : once (m == s) ≡ once (m == s) + 0 = omega arith in subst (λ n. IsRare n (m ≡ s)) e (once_at m s)

-- ---- lists

pub append_rare : (s : ℕ) (xs ys : List (Option SignalNo)) (P Q : Type 0) → IsRare (times s xs) P → IsRare (times s ys) Q → (P → Q → ⊥) → IsRare (times s (xs ++ ys)) (P ⊎ Q)
append_rare s xs ys P Q x y apart = subst (λ n. IsRare n (P ⊎ Q)) (sym (times_append s xs ys)) (rare_join (times s xs) (times s ys) P Q x y apart)

-- where the signal stands in what an item gives, it is of the item's place, and it is of one place alone
pub flat_rare : {X : Type 0} (g : X → List (Option SignalNo)) (s : ℕ) (B : ℕ → Type 0) → ((j k : ℕ) → B j → B k → j ≡ k) → (xs : List X) → ((k : ℕ) (x : X) → At xs k x → IsRare (times s (g x)) (B k))
    → IsRare (times s (flat_map g xs)) ((k : ℕ) × (k < length xs) × B k)
flat_rare g s B only [] each = inl refl
flat_rare g s B only (x ∷ xs) each =
    rare_weaker (times s (g x ++ flat_map g xs)) (B 0 ⊎ ((k : ℕ) × (k < length xs) × B (suc k))) ((k : ℕ) × (k < suc (length xs)) × B k) told
    (append_rare s (g x) (flat_map g xs) (B 0) ((k : ℕ) × (k < length xs) × B (suc k)) (each 0 x refl)
    (flat_rare g s (λ k. B (suc k)) (λ j k a b. let e = only (suc j) (suc k) a b in omega (arith, e)) xs (λ k y at. each (suc k) y at))
    (λ a b. let e : 0 ≡ suc b.0 = only 0 (suc b.0) a b.2 in omega (arith, e)))
  where
    told : B 0 ⊎ ((k : ℕ) × (k < length xs) × B (suc k)) → (k : ℕ) × (k < suc (length xs)) × B k
    told (inl b) = (0, omega arith, b)
    told (inr (k, lt, b)) = (suc k, omega (arith, lt), b)

pub flat_ones : {X Y : Type 0} (f : X → Y) (xs : List X) → flat_map (λ x. f x ∷ []) xs ≡ map f xs
flat_ones f [] = refl
flat_ones f (x ∷ xs) = ap (λ ys. f x ∷ ys) (flat_ones f xs)

-- the same where each item gives one signal
pub map_rare : {X : Type 0} (f : X → Option SignalNo) (s : ℕ) (B : ℕ → Type 0) → ((j k : ℕ) → B j → B k → j ≡ k) → (xs : List X) → ((k : ℕ) (x : X) → At xs k x → IsRare (times s (f x ∷ [])) (B k))
    → IsRare (times s (map f xs)) ((k : ℕ) × (k < length xs) × B k)
map_rare f s B only xs each =
    subst (λ ys. IsRare (times s ys) ((k : ℕ) × (k < length xs) × B k)) (flat_ones f xs) (flat_rare (λ x. f x ∷ []) s B only xs each)
