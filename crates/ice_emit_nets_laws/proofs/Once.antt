-- Lists whose items differ, and how long they may be.
use Rattle.std.proofs.Common.{◌≡◌, ℕ, zero, suc, ◌+◌, ◌<◌, ◌≤◌, Bool, true, false, cond, Option, None, Some, List, [], ◌∷◌, length, map, refl, sym, ap, ◌∙◌, subst, arith}
use Rattle.std.specs.Prelude.{is_some, filter_map, ◌==◌}
use Rattle.std.specs.List.{IsDistinct, cons_option, filter, list_any, range_with_len}
use Rattle.std.proofs.lemmas.Bool.{eqb-true}
use Rattle.std.proofs.lemmas.Map.Steps.{length-le_from_distinct_below}
use Rattle.std.proofs.lemmas.Option.{none-some, same_Some}
use Rattle.ice_base_values.specs.Order.{At, Has, StandOnce}
use Rattle.ice_base_values.proofs.Members.{At_within, any_Has, filter_Has, map_At}
use Rattle.ice_base_values.proofs.Once.{distinct_from_once}

-- ---- lists made of others
pub once_map : {X Y : Type 0} (f : X → Y) (xs : List X) → ((x z : X) → f x ≡ f z → x ≡ z) → StandOnce xs → StandOnce (map f xs)
once_map {X} f xs same once i j y a b =
    let one = map_At f xs i y a in
    let other = map_At f xs j y b in
    once i j other.0 (subst (λ (x : X). At xs i x) (same one.0 other.0 (one.2 ∙ sym other.2)) one.1) other.1

once_rest : {X : Type 0} (x : X) (xs : List X) → StandOnce (x ∷ xs) → StandOnce xs
once_rest x xs once i j y a b = let e : suc i ≡ suc j = once (suc i) (suc j) y a b in omega (arith, e)

once_first : {X : Type 0} (x : X) (xs : List X) → StandOnce (x ∷ xs) → Has xs x → ⊥
once_first x xs once has = let e : 0 ≡ suc has.0 = once 0 (suc has.0) x refl has.1 in omega (arith, e)

once_cons : {X : Type 0} (x : X) (xs : List X) → (Has xs x → ⊥) → StandOnce xs → StandOnce (x ∷ xs)
once_cons x xs apart once zero zero y a b = refl
once_cons {X} x xs apart once zero (suc j) y a b = absurd (apart (j, subst (λ (z : X). At xs j z) (sym (same_Some x y a)) b))
once_cons {X} x xs apart once (suc i) zero y a b = absurd (apart (i, subst (λ (z : X). At xs i z) (sym (same_Some x y b)) a))
once_cons x xs apart once (suc i) (suc j) y a b = ap suc (once i j y a b)

range_place : (start count i k : ℕ) → At (range_with_len start count) i k → k ≡ start + i
range_place start zero i k at = absurd (none-some k at)
range_place start (suc count) zero k at = let e = same_Some start k at in omega (arith, e)
range_place start (suc count) (suc i) k at = let e = range_place (start + 1) count i k at in omega (arith, e)

pub once_range : (count : ℕ) → StandOnce (range_with_len 0 count)
once_range count i j k a b =
    let one = range_place 0 count i k a in
    let other = range_place 0 count j k b in
    omega (arith, one, other)

-- ---- a list whose items differ is no longer than one that has them all
abbrev places : {X : Type 0} (xs ys : List X) → ((x : X) → Has xs x → Has ys x) → List ℕ
places [] ys each = []
places (x ∷ xs) ys each = (each x (0, refl)).0 ∷ places xs ys (λ z has. each z (suc has.0, has.1))

places_long : {X : Type 0} (xs ys : List X) (each : (x : X) → Has xs x → Has ys x) → length (places xs ys each) ≡ length xs
places_long [] ys each = refl
places_long (x ∷ xs) ys each = ap suc (places_long xs ys (λ z has. each z (suc has.0, has.1)))

places_back : {X : Type 0} (xs ys : List X) (each : (x : X) → Has xs x → Has ys x) (i k : ℕ) → At (places xs ys each) i k → (x : X) × At xs i x × At ys k x
places_back [] ys each i k at = absurd (none-some k at)
places_back (x ∷ xs) ys each zero k at = (x, refl, subst (λ n. At ys n x) (same_Some (each x (0, refl)).0 k at) (each x (0, refl)).1)
places_back (x ∷ xs) ys each (suc i) k at = places_back xs ys (λ z has. each z (suc has.0, has.1)) i k at

pub few_once : {X : Type 0} (xs ys : List X) → StandOnce xs → ((x : X) → Has xs x → Has ys x) → length xs ≤ length ys
few_once {X} xs ys once each =
    let few : length ks ≤ length ys = length-le_from_distinct_below ks (length ys) distinct within in
    let long = places_long xs ys each in
    omega (arith, few, long)
  where
    ks : List ℕ
    ks = places xs ys each

    ks_once : StandOnce ks
    ks_once i j k a b =
        let one = places_back xs ys each i k a in
        let other = places_back xs ys each j k b in
        once i j other.0 (subst (λ (x : X). At xs i x) (same_Some one.0 other.0 (sym one.2 ∙ other.2)) one.1) other.1

    distinct : IsDistinct ◌==◌ ks
    distinct = distinct_from_once ◌==◌ eqb-true ks ks_once

    within : (q : ℕ) → list_any (λ k. q == k) ks ≡ true → q < length ys
    within q e =
        let found = any_Has (λ k. q == k) ks e in
        let back = places_back xs ys each found.1.0 found.0 found.1.1 in
        let same = eqb-true q found.0 found.2 in
        let lt = At_within ys found.0 back.0 back.2 in
        omega (arith, same, lt)

-- ---- what items give, where no item stands twice
once_filter : {X : Type 0} (test : X → Bool) (xs : List X) → StandOnce xs → StandOnce (filter test xs)
once_filter test [] once = once
once_filter {X} test (x ∷ xs) once = by (test x) (once_filter test xs (once_rest x xs once))
  where
    by : (b : Bool) → StandOnce (filter test xs) → StandOnce (cond b (x ∷ filter test xs) (filter test xs))
    by true rest = once_cons x (filter test xs) (λ has. once_first x xs once (filter_Has test xs x has).0) rest
    by false rest = rest

abbrev gives : {X Y : Type 0} → (X → Option Y) → X → Bool
gives f x = is_some (f x)

given_long : {X Y : Type 0} (f : X → Option Y) (xs : List X) → length (filter_map f xs) ≡ length (filter (gives f) xs)
given_long f [] = refl
given_long {X} {Y} f (x ∷ xs) = by (f x) (given_long f xs)
  where
    by : (o : Option Y) → length (filter_map f xs) ≡ length (filter (gives f) xs) → length (cons_option o (filter_map f xs)) ≡ length (cond (is_some o) (x ∷ filter (gives f) xs) (filter (gives f) xs))
    by None rest = rest
    by (Some y) rest = ap suc rest

-- so many things are given by items that are all in a list
pub few_given : {X Y : Type 0} (f : X → Option Y) (xs ys : List X) → StandOnce xs → ((x : X) (y : Y) → Has xs x → f x ≡ Some y → Has ys x) → length (filter_map f xs) ≤ length ys
few_given {X} {Y} f xs ys once each =
    let few : length (filter (gives f) xs) ≤ length ys = few_once (filter (gives f) xs) ys (once_filter (gives f) xs once) kept in
    let long = given_long f xs in
    omega (arith, few, long)
  where
    some_of : (o : Option Y) → is_some o ≡ true → (y : Y) × (o ≡ Some y)
    some_of None e = cc e
    some_of (Some y) e = (y, refl)

    kept : (x : X) → Has (filter (gives f) xs) x → Has ys x
    kept x has =
        let back = filter_Has (gives f) xs x has in
        let told = some_of (f x) back.1 in
        each x told.0 back.0 told.1
