-- Where the members of joined, paired and numbered lists stand.
use Rattle.std.proofs.Common.{◌≡◌, ℕ, ◌+◌, ◌<◌, Bool, true, false, cond, leb, None, Some, inl, inr, ap, ◌∙◌, arith, zero, suc, List, [], ◌∷◌, map, refl, ◌++◌, length, zip}
use Rattle.std.specs.List.{range_with_len}
use Rattle.std.proofs.lemmas.List.FromFn.{length-range_with_len, get_or-range_with_len}
use Rattle.std.proofs.lemmas.Option.{slice_get-get_or, none-some, same_Some}
use Rattle.std.specs.Prelude.{slice_index_or, option_map, position}
use Rattle.std.specs.List.{position_or_len}
use Rattle.std.proofs.lemmas.Bool.{lt-ltb}
use Rattle.std.proofs.lemmas.Bool.Decides.{leb_tells}
use Rattle.ice_base_values.specs.Order.{Has, At}
use Rattle.ice_base_values.proofs.Members.{At_left, At_right}

pub nothing_before : (s : ℕ) → 0 + s ≡ s
nothing_before s = omega arith

pub has_number : (count s : ℕ) → s < count → Has (range_with_len 0 count) s
has_number count s lt =
    (s, slice_get-get_or (range_with_len 0 count) s 0 (let long = length-range_with_len 0 count in omega (arith, lt, long)) ∙ ap Some (get_or-range_with_len 0 count s 0 lt ∙ nothing_before s))

pub all_alike : {X Y : Type 0} (y : Y) (xs : List X) (i : ℕ) → slice_index_or (map (λ x. y) xs) i y ≡ y
all_alike y [] i = refl
all_alike y (x ∷ xs) zero = refl
all_alike y (x ∷ xs) (suc i) = all_alike y xs i

pub Has_left : {X : Type 0} (xs ys : List X) (x : X) → Has xs x → Has (xs ++ ys) x
Has_left xs ys x has = (has.0, At_left xs ys has.0 x has.1)

pub Has_right : {X : Type 0} (xs ys : List X) (x : X) → Has ys x → Has (xs ++ ys) x
Has_right xs ys x has = (length xs + has.0, At_right xs ys has.0 x has.1)

pub zip_at : {A B : Type 0} (xs : List A) (ys : List B) (n : ℕ) (a : A) (b : B) → At xs n a → At ys n b → At (zip xs ys) n (a, b)
zip_at [] ys n a b at there = absurd (none-some a at)
zip_at (c ∷ xs) [] n a b at there = absurd (none-some b there)
zip_at (c ∷ xs) (d ∷ ys) zero a b at there =
    let one = same_Some c a at in
    let two = same_Some d b there in
    λ i. Some (one i, two i)
zip_at (c ∷ xs) (d ∷ ys) (suc n) a b at there = zip_at xs ys n a b at there

-- ---- the first member that passes a test
shifted : (k l : ℕ) → cond (leb (suc (1 + k)) (suc l)) (Some (1 + k)) None ≡ option_map suc (cond (leb (suc k) l) (Some k) None)
shifted k l = elim (leb_tells (suc k) l) [
  | inl hit ↦ elim (leb_tells (suc (1 + k)) (suc l)) [
    | inl also ↦ rw (hit.0, also.0) (let e : 1 + k ≡ suc k = omega arith in ap Some e)
    | inr never ↦ absurd (omega (arith, hit.1, never.1))
  ]
  | inr miss ↦ elim (leb_tells (suc (1 + k)) (suc l)) [ inl never ↦ absurd (omega (arith, miss.1, never.1)) | inr also ↦ rw (miss.0, also.0) refl ]
]

pub position_cons : {X : Type 0} (p : X → Bool) (x : X) (xs : List X) → position p (x ∷ xs) ≡ cond (p x) (Some 0) (option_map suc (position p xs))
position_cons p x xs = of (p x) refl
  where
    of : (b : Bool) → p x ≡ b → position p (x ∷ xs) ≡ cond b (Some 0) (option_map suc (position p xs))
    of true e = rw e (rw (lt-ltb 0 (suc (length xs)) (omega arith)) refl)
    of false e = rw e (shifted (position_or_len p xs) (length xs))
