-- Places and counts of signals in lists that stand one behind the other.
use Rattle.std.proofs.Common.{◌≡◌, ℕ, zero, suc, ◌+◌, ◌<◌, ◌≤◌, ◌==◌, Bool, true, false, Option, None, Some, List, [], ◌∷◌, ◌++◌, length, All, refl, ap, ◌∙◌, arith, if◌then◌else◌, eqb-true, eq-eqb}
use Rattle.std.specs.Prelude.{option_map}
use Rattle.std.proofs.lemmas.List.Elements.{All-head, All-tail}
use Rattle.std.proofs.lemmas.Option.{none-some, same_Some}
use Rattle.ice_base.specs.declared.number.SignalNo.{SignalNo}
use Rattle.ice_base_values.specs.Order.{At, Has}
use Rattle.ice_net.specs.Formed.{IsBelow}
use Rattle.ice_net.specs.Drivers.{is_signal, is_there, place_of}
use Rattle.ice_check.specs.Tables.{once, times}

abbrev pub wire : ℕ → Option SignalNo
wire s = Some (record { 0 = s })

pub is_wire : (s : ℕ) (x : Option SignalNo) → is_signal s x ≡ true → x ≡ wire s
is_wire s None e = cc e
is_wire s (Some signal) e = ap wire (eqb-true signal.0 s e)

pub wire_is : (s : ℕ) → is_signal s (wire s) ≡ true
wire_is s = eq-eqb s s refl

-- ---- places
pub place_has : (s : ℕ) (xs : List (Option SignalNo)) → is_there (place_of s xs) ≡ true → Has xs (wire s)
place_has s [] e = cc e
place_has s (x ∷ xs) e = by (is_signal s x) refl e (place_has s xs)
  where
    later : (o : Option ℕ) → is_there (option_map suc o) ≡ true → is_there o ≡ true
    later None e = cc e
    later (Some k) e = refl

    by : (b : Bool) → is_signal s x ≡ b → is_there (if b then Some 0 else option_map suc (place_of s xs)) ≡ true → (is_there (place_of s xs) ≡ true → Has xs (wire s)) → Has (x ∷ xs) (wire s)
    by true is there rest = (0, ap Some (is_wire s x is))
    by false is there rest = let more = rest (later (place_of s xs) there) in (suc more.0, more.1)

pub has_place : (s : ℕ) (xs : List (Option SignalNo)) (i : ℕ) → At xs i (wire s) → is_there (place_of s xs) ≡ true
has_place s [] i at = absurd (none-some (wire s) at)
has_place s (x ∷ xs) zero at = ap (λ b. is_there (if b then Some 0 else option_map suc (place_of s xs))) (ap (is_signal s) (same_Some x (wire s) at) ∙ wire_is s)
has_place s (x ∷ xs) (suc i) at = by (is_signal s x) (place_of s xs) (has_place s xs i at)
  where
    by : (b : Bool) (o : Option ℕ) → is_there o ≡ true → is_there (if b then Some 0 else option_map suc o) ≡ true
    by true o e = refl
    by false None e = cc e
    by false (Some k) e = refl

pub place_within : (s : ℕ) (xs : List (Option SignalNo)) (i : ℕ) → place_of s xs ≡ Some i → i < length xs
place_within s [] i e = absurd (none-some i e)
place_within s (x ∷ xs) i e = by (is_signal s x) e (place_within s xs)
  where
    later : (o : Option ℕ) → option_map suc o ≡ Some i → ((k : ℕ) → o ≡ Some k → k < length xs) → i < length (x ∷ xs)
    later None e rest = absurd (none-some i e)
    later (Some k) e rest = let lt = rest k refl in let same : suc k ≡ i = same_Some (suc k) i e in omega arith

    by : (b : Bool) → (if b then Some 0 else option_map suc (place_of s xs)) ≡ Some i → ((k : ℕ) → place_of s xs ≡ Some k → k < length xs) → i < length (x ∷ xs)
    by true e rest = let same : 0 ≡ i = same_Some 0 i e in omega arith
    by false e rest = later (place_of s xs) e rest

-- the first place is in the first list, where nothing of the second is this signal
pub place_left : (s : ℕ) (xs ys : List (Option SignalNo)) → place_of s ys ≡ None → place_of s (xs ++ ys) ≡ place_of s xs
place_left s [] ys none = none
place_left s (x ∷ xs) ys none = ap (λ o. if is_signal s x then Some 0 else option_map suc o) (place_left s xs ys none)

-- it is in the second, where nothing of the first is
pub place_right : (s : ℕ) (xs ys : List (Option SignalNo)) (j : ℕ) → place_of s xs ≡ None → place_of s ys ≡ Some j → place_of s (xs ++ ys) ≡ Some (length xs + j)
place_right s [] ys j none is = is ∙ ap Some (first j)
  where
    first : (j : ℕ) → j ≡ 0 + j
    first j = omega arith
place_right s (x ∷ xs) ys j none is = by (is_signal s x) none (λ rest. place_right s xs ys j rest is)
  where
    next : (n : ℕ) → suc (n + j) ≡ suc n + j
    next n = omega arith

    nothing : (o : Option ℕ) → option_map suc o ≡ None → o ≡ None
    nothing None e = refl
    nothing (Some k) e = cc e

    by : (b : Bool) → (if b then Some 0 else option_map suc (place_of s xs)) ≡ None → (place_of s xs ≡ None → place_of s (xs ++ ys) ≡ Some (length xs + j))
        → (if b then Some 0 else option_map suc (place_of s (xs ++ ys))) ≡ Some (suc (length xs) + j)
    by true e rest = cc e
    by false e rest = ap (option_map suc) (rest (nothing (place_of s xs) e)) ∙ ap Some (next (length xs))

-- ---- signals of other numbers
other_wire : (s n : ℕ) (x : Option SignalNo) → IsBelow n x → n ≤ s → is_signal s x ≡ false
other_wire s n None below le = refl
other_wire s n (Some signal) below le = by (signal.0 == s) refl
  where
    by : (b : Bool) → (signal.0 == s) ≡ b → b ≡ false
    by true e = let same : signal.0 ≡ s = eqb-true signal.0 s e in absurd (omega arith)
    by false e = refl

pub place_above : (s n : ℕ) (xs : List (Option SignalNo)) → All (IsBelow n) xs → n ≤ s → place_of s xs ≡ None
place_above s n [] all le = refl
place_above s n (x ∷ xs) all le =
    ap (λ b. if b then Some 0 else option_map suc (place_of s xs)) (other_wire s n x (All-head (IsBelow n) x xs all) le)
    ∙ ap (option_map suc) (place_above s n xs (All-tail (IsBelow n) x xs all) le)

pub times_above : (s n : ℕ) (xs : List (Option SignalNo)) → All (IsBelow n) xs → n ≤ s → times s xs ≡ 0
times_above s n [] all le = refl
times_above s n (x ∷ xs) all le =
    let here = ap once (other_wire s n x (All-head (IsBelow n) x xs all) le) in
    let rest = times_above s n xs (All-tail (IsBelow n) x xs all) le in
    omega (arith, here, rest)

-- ---- counts
pub times_append : (s : ℕ) (xs ys : List (Option SignalNo)) → times s (xs ++ ys) ≡ times s xs + times s ys
times_append s [] ys = omega arith
times_append s (x ∷ xs) ys = let rest = times_append s xs ys in omega (arith, rest)

-- a signal that is counted is there
pub times_has : (s : ℕ) (xs : List (Option SignalNo)) → 0 < times s xs → Has xs (wire s)
times_has s [] lt = absurd (omega (arith, lt))
times_has s (x ∷ xs) lt = by (is_signal s x) refl lt (times_has s xs)
  where
    by : (b : Bool) → is_signal s x ≡ b → 0 < once b + times s xs → (0 < times s xs → Has xs (wire s)) → Has (x ∷ xs) (wire s)
    by true is some rest = (0, ap Some (is_wire s x is))
    by false is some rest = let more = rest (omega (arith, some)) in (suc more.0, more.1)
