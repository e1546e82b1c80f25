-- The tables by the number of a signal, as they are made.
use Rattle.std.proofs.Common.{◌≡◌, ◌≢◌, ℕ, suc, ◌+◌, ◌<◌, ◌≤◌, Bool, true, false, Option, None, Some, List, [], ◌∷◌, ◌++◌, length, get_or, take, inl, inr, refl, ap, sym, ◌∙◌, subst, arith, length-take-le, replicate, All, if◌then◌else◌}
use Rattle.std.specs.Prelude.{option_map}
use Rattle.std.proofs.lemmas.List.{take_more, take_all, get_or-replicate, length-replicate, get_or_past}
use Rattle.std.proofs.lemmas.Bool.Decides.{eqb_tells}
use Rattle.std.proofs.lemmas.Bool.{cases_lt}
use Rattle.ice_base.specs.declared.number.SignalNo.{SignalNo}
use Rattle.ice_net.specs.Formed.{IsBelow}
use Rattle.ice_net.specs.Drivers.{is_signal, place_of}
use Rattle.ice_check.specs.Tables.{ArePlaces, AreTimes, settled, once, times}

-- ---- one more element
step_place : (b c : Bool) (o : Option ℕ) (n : ℕ)
    → (if b then Some 0 else option_map suc (settled c o n)) ≡ settled c (if b then Some 0 else option_map suc o) (suc n)
step_place true true o n = refl
step_place true false o n = refl
step_place false true None n = refl
step_place false true (Some k) n = refl
step_place false false o n = refl

place_push : (s : ℕ) (xs : List (Option SignalNo)) (x : Option SignalNo) → place_of s (xs ++ x ∷ []) ≡ settled (is_signal s x) (place_of s xs) (length xs)
place_push s [] x = last (is_signal s x)
  where
    last : (b : Bool) → (if b then Some 0 else option_map suc None) ≡ settled b None 0
    last true = refl
    last false = refl
place_push s (y ∷ xs) x = ap (λ o. if is_signal s y then Some 0 else option_map suc o) (place_push s xs x) ∙ step_place (is_signal s y) (is_signal s x) (place_of s xs) (length xs)

times_push : (s : ℕ) (xs : List (Option SignalNo)) (x : Option SignalNo) → times s (xs ++ x ∷ []) ≡ times s xs + once (is_signal s x)
times_push s [] x = omega arith
times_push s (y ∷ xs) x = let h = times_push s xs x in omega (arith, h)

once_bound : (b : Bool) → once b ≤ 1
once_bound true = omega arith
once_bound false = omega arith

times_bound : (s : ℕ) (xs : List (Option SignalNo)) → times s xs ≤ length xs
times_bound s [] = omega arith
times_bound s (y ∷ xs) = let h = times_bound s xs in let b = once_bound (is_signal s y) in omega (arith, h, b)

-- ---- first places
pub places_none : (count : ℕ) (list : List (Option SignalNo)) (table : List (Option ℕ)) → length table ≡ count
    → ((s : ℕ) → get_or table s None ≡ None) → ArePlaces count (take 0 list) table
places_none count list table long blank = record { long = long; places = λ s lt. blank s }

pub places_more : (count : ℕ) (list : List (Option SignalNo)) (old new : List (Option ℕ)) (i : ℕ) (d : Option SignalNo) → i < length list
    → ArePlaces count (take i list) old → length new ≡ length old
    → ((s : ℕ) → get_or new s None ≡ settled (is_signal s (get_or list i d)) (get_or old s None) i)
    → ArePlaces count (take (i + 1) list) new
places_more count list old new i d lt h long now = record {
  long = long ∙ h.long;
  places = λ s below. now s ∙ ap (λ o. settled (is_signal s (get_or list i d)) o i) (h.places s below)
      ∙ ap (λ n. settled (is_signal s (get_or list i d)) (place_of s (take i list)) n) (sym (length-take-le i list (let l : i < length list = lt in omega arith)))
      ∙ sym (place_push s (take i list) (get_or list i d))
      ∙ ap (place_of s) (sym (take_more list i d lt));
}

pub places_all : (count : ℕ) (list : List (Option SignalNo)) (table : List (Option ℕ)) (i : ℕ) → length list ≤ i → ArePlaces count (take i list) table → ArePlaces count list table
places_all count list table i le h = subst (λ (l : List (Option SignalNo)). ArePlaces count l table) (take_all i list le) h

pub below_here : (count : ℕ) (list : List (Option SignalNo)) (table : List (Option ℕ)) (i : ℕ) (d : Option SignalNo) → i < length list
    → All (IsBelow count) list → ArePlaces count (take i list) table → IsBelow (length table) (get_or list i d)
below_here count list table i d lt all h = subst (λ (n : ℕ). IsBelow n (get_or list i d)) (sym h.long) (all i d lt)

-- a place is taken down
pub settled_there : (signal : SignalNo) (old new : List (Option ℕ)) (place : ℕ)
    → get_or new signal.0 None ≡ settled true (get_or old signal.0 None) place
    → ((s : ℕ) → s ≢ signal.0 → get_or new s None ≡ get_or old s None)
    → (s : ℕ) → get_or new s None ≡ settled (is_signal s (Some signal)) (get_or old s None) place
settled_there signal old new place claimed others s =
    elim (eqb_tells signal.0 s) [
      | inl same ↦ rw same.0 (subst (λ t. get_or new t None ≡ settled true (get_or old t None) place) same.1 claimed)
      | inr other ↦ rw other.0 (others s (λ e. other.1 (sym e)))
    ]

pub settled_missing : (old : List (Option ℕ)) (place s : ℕ) → get_or old s None ≡ settled (is_signal s None) (get_or old s None) place
settled_missing old place s = refl

-- ---- counts
pub times_none : (count : ℕ) (list : List (Option SignalNo)) (table : List ℕ) → table ≡ replicate count 0 → AreTimes count (take 0 list) table
times_none count list table e = rw e (record { long = length-replicate count 0; times_are = λ s lt. get_or-replicate count s 0 0 lt })

pub times_more : (count : ℕ) (list : List (Option SignalNo)) (old new : List ℕ) (i : ℕ) (d : Option SignalNo) → i < length list
    → AreTimes count (take i list) old → length new ≡ length old
    → ((s : ℕ) → get_or new s 0 ≡ get_or old s 0 + once (is_signal s (get_or list i d)))
    → AreTimes count (take (i + 1) list) new
times_more count list old new i d lt h long now = record {
  long = long ∙ h.long;
  times_are = λ s below. now s ∙ ap (λ n. n + once (is_signal s (get_or list i d))) (h.times_are s below)
      ∙ sym (times_push s (take i list) (get_or list i d))
      ∙ ap (times s) (sym (take_more list i d lt));
}

pub times_all : (count : ℕ) (list : List (Option SignalNo)) (table : List ℕ) (i : ℕ) → length list ≤ i → AreTimes count (take i list) table → AreTimes count list table
times_all count list table i le h = subst (λ (l : List (Option SignalNo)). AreTimes count l table) (take_all i list le) h

pub below_here_too : (count : ℕ) (list : List (Option SignalNo)) (table : List ℕ) (i : ℕ) (d : Option SignalNo) → i < length list
    → All (IsBelow count) list → AreTimes count (take i list) table → IsBelow (length table) (get_or list i d)
below_here_too count list table i d lt all h = subst (λ (n : ℕ). IsBelow n (get_or list i d)) (sym h.long) (all i d lt)

pub times_room : (count : ℕ) (list : List (Option SignalNo)) (table : List ℕ) (i : ℕ) → i < length list → AreTimes count (take i list) table → (s : ℕ) → get_or table s 0 ≤ i
times_room count list table i lt h s =
    elim (cases_lt s count) [
      | inl below ↦ (let e = h.times_are s below in let b = times_bound s (take i list) in
          let l : i < length list = lt in
          let n : length (take i list) ≡ i = length-take-le i list (omega arith) in omega arith)
      | inr past ↦ (let long = h.long in let zero : get_or table s 0 ≡ 0 = get_or_past table s 0 (omega arith) in omega arith)
    ]

pub tallied_there : (signal : SignalNo) (old new : List ℕ)
    → get_or new signal.0 0 ≡ get_or old signal.0 0 + 1
    → ((s : ℕ) → s ≢ signal.0 → get_or new s 0 ≡ get_or old s 0)
    → (s : ℕ) → get_or new s 0 ≡ get_or old s 0 + once (is_signal s (Some signal))
tallied_there signal old new added others s =
    elim (eqb_tells signal.0 s) [
      | inl same ↦ rw same.0 (subst (λ t. get_or new t 0 ≡ get_or old t 0 + 1) same.1 added)
      | inr other ↦ rw other.0 (let h = others s (λ e. other.1 (sym e)) in omega arith)
    ]

pub tallied_missing : (old : List ℕ) (s : ℕ) → get_or old s 0 ≡ get_or old s 0 + once (is_signal s None)
tallied_missing old s = omega arith
