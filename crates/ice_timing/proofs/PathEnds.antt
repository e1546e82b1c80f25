-- The last point of a path, and paths that are one point longer.
use Rattle.std.proofs.Common.{◌≡◌, ◌⊎◌, ℕ, zero, suc, ◌+◌, ◌-◌, ◌<◌, ◌≤◌, List, [], ◌∷◌, ◌++◌, length, Some, inl, inr, refl, sym, ap, ◌∙◌, subst, arith, length-append}
use Rattle.std.specs.Prelude.{sum_by}
use Rattle.std.proofs.lemmas.Option.{same_Some}
use Rattle.std.proofs.lemmas.List.Sums.{sum_by-append}
use Rattle.ice_base_values.specs.Order.{At, Has}
use Rattle.ice_base_values.proofs.Members.{At_left, At_right, At_parts, At_within}
use Rattle.ice_base_values.proofs.Places.{At_same}
use Rattle.ice_timing.specs.Paths.{IsPath, IsPathTo, length_of}

-- ---- the last item of a list
pub record EndsIn {P : Type 0} (xs : List P) : Type 0 where
  pub front : List P
  pub last : P
  pub is : xs ≡ front ++ last ∷ []

pub ends_in : {P : Type 0} (xs : List P) → 0 < length xs → EndsIn xs
ends_in [] some = absurd (omega arith)
ends_in (x ∷ []) some = record { front = []; last = x; is = refl }
ends_in (x ∷ y ∷ ys) some =
    let rest = ends_in (y ∷ ys) (omega arith) in
    record { front = x ∷ rest.front; last = rest.last; is = ap (λ l. x ∷ l) rest.is }

last_at : {P : Type 0} (front : List P) (x : P) → At (front ++ x ∷ []) (length front) x
last_at front x =
    let e : length front + 0 ≡ length front = omega arith in
    subst (λ n. At (front ++ x ∷ []) n x) e (At_right front (x ∷ []) 0 x refl)

last_place : {P : Type 0} (front : List P) (x : P) → length (front ++ x ∷ []) - 1 ≡ length front
last_place front x = let long : length (front ++ x ∷ []) ≡ length front + 1 = length-append front (x ∷ []) in omega (arith, long)

last_is : {P : Type 0} (front : List P) (x y : P) → At (front ++ x ∷ []) (length (front ++ x ∷ []) - 1) y → x ≡ y
last_is front x y at =
    At_same (front ++ x ∷ []) (length front) x y (last_at front x) (subst (λ n. At (front ++ x ∷ []) n y) (last_place front x) at)

-- what stands in the front of a list
front_at : {P : Type 0} (xs ys : List P) (i : ℕ) (x : P) → i < length xs → At (xs ++ ys) i x → At xs i x
front_at xs ys i x lt at = by (At_parts xs ys i x at)
  where
    by : At xs i x ⊎ ((j : ℕ) × (i ≡ length xs + j) × At ys j x) → At xs i x
    by (inl here) = here
    by (inr (j, e, there)) = absurd (omega (arith, lt, e))

-- ---- one point more
module _ {P : Type 0} (depends : P → List P) (path : List P) (q p : P) (to : IsPathTo depends path q) (has : Has (depends p) q) where
  last_step : (i j : ℕ) (x y : P) → At (path ++ p ∷ []) i x → i + 1 ≡ length path + j → At (p ∷ []) j y → Has (depends y) x
  last_step i zero x y at e there =
      let some = to.is_path.some in
      let before : At path i x = front_at path (p ∷ []) i x (omega (arith, e)) at in
      let place : length path - 1 ≡ i = omega (arith, e) in
      let here : q ≡ x = At_same path i q x (subst (λ n. At path n q) place to.ends) before in
      let end : p ≡ y = same_Some p y there in
      subst (λ z. Has (depends z) x) end (subst (λ z. Has (depends p) z) here has)
  last_step i (suc j) x y at e there = cc there

  later : (i : ℕ) (x y : P) → At (path ++ p ∷ []) i x → At (path ++ p ∷ []) (i + 1) y → Has (depends y) x
  later i x y at next = by (At_parts path (p ∷ []) (i + 1) y next)
    where
      by : At path (i + 1) y ⊎ ((j : ℕ) × (i + 1 ≡ length path + j) × At (p ∷ []) j y) → Has (depends y) x
      by (inl here) =
          let lt : i + 1 < length path = At_within path (i + 1) y here in
          to.is_path.later i x y (front_at path (p ∷ []) i x (omega (arith, lt)) at) here
      by (inr (j, e, there)) = last_step i j x y at e there

  pub longer : IsPathTo depends (path ++ p ∷ []) p
  longer = record {
    is_path = record {
      some = (let long : length (path ++ p ∷ []) ≡ length path + 1 = length-append path (p ∷ []) in omega (arith, long));
      first = λ x at. to.is_path.first x (front_at path (p ∷ []) 0 x to.is_path.some at);
      later = later;
    };
    ends = subst (λ n. At (path ++ p ∷ []) n p) (sym (last_place path p)) (last_at path p);
  }

pub length_longer : {P : Type 0} (first delay : P → ℕ) (path : List P) (p : P) → 0 < length path → length_of first delay (path ++ p ∷ []) ≡ length_of first delay path + delay p
length_longer first delay [] p some = absurd (omega arith)
length_longer first delay (x ∷ path) p some =
    let e : sum_by delay (path ++ p ∷ []) ≡ sum_by delay path + (0 + delay p) = sum_by-append delay path (p ∷ []) in
    omega (arith, e)

-- ---- a path is one point that depends on nothing, or a path to what its last point depends on, and that point
pub record IsOne {P : Type 0} (depends : P → List P) (path : List P) (p : P) : Type 0 where
  pub is : path ≡ p ∷ []
  pub free : depends p ≡ []

pub record IsMore {P : Type 0} (depends : P → List P) (path : List P) (p : P) : Type 0 where
  pub front : List P
  pub before : P
  pub is : path ≡ front ++ p ∷ []
  pub leads : IsPathTo depends front before
  pub has : Has (depends p) before

cut_front : {P : Type 0} (depends : P → List P) (front : List P) (x p : P) → 0 < length front → IsPathTo depends (front ++ x ∷ []) p → IsMore depends (front ++ x ∷ []) p
cut_front depends front x p some to =
    let same : x ≡ p = last_is front x p to.ends in
    let end = ends_in front some in
    let long : length front ≡ length end.front + 1 = ap length end.is ∙ length-append end.front (end.last ∷ []) in
    let at : At front (length end.front) end.last = subst (λ l. At l (length end.front) end.last) (sym end.is) (last_at end.front end.last) in
    let place : length end.front ≡ length front - 1 = omega (arith, long) in
    record {
      front = front;
      before = end.last;
      is = ap (λ z. front ++ z ∷ []) same;
      leads = record {
        is_path = record {
          some = some;
          first = λ z here. to.is_path.first z (At_left front (x ∷ []) 0 z here);
          later = λ i y z here next. to.is_path.later i y z (At_left front (x ∷ []) i y here) (At_left front (x ∷ []) (i + 1) z next);
        };
        ends = subst (λ n. At front n end.last) place at;
      };
      has = subst (λ z. Has (depends z) end.last) same
          (to.is_path.later (length end.front) end.last x (At_left front (x ∷ []) (length end.front) end.last at)
          (subst (λ n. At (front ++ x ∷ []) n x) long (last_at front x)));
    }

cut_of : {P : Type 0} (depends : P → List P) (front : List P) (x p : P) → IsPathTo depends (front ++ x ∷ []) p → IsOne depends (front ++ x ∷ []) p ⊎ IsMore depends (front ++ x ∷ []) p
cut_of depends [] x p to =
    let same : x ≡ p = last_is [] x p to.ends in
    inl (record { is = ap (λ z. z ∷ []) same; free = subst (λ z. depends z ≡ []) same (to.is_path.first x refl) })
cut_of depends (y ∷ front) x p to = inr (cut_front depends (y ∷ front) x p (omega arith) to)

pub cut : {P : Type 0} (depends : P → List P) (path : List P) (p : P) → IsPathTo depends path p → IsOne depends path p ⊎ IsMore depends path p
cut depends path p to =
    let end = ends_in path to.is_path.some in
    subst (λ l. IsOne depends l p ⊎ IsMore depends l p) (sym end.is) (cut_of depends end.front end.last p (subst (λ l. IsPathTo depends l p) end.is to))
