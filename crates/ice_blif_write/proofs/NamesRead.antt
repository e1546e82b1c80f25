-- Names that appear as a text is read, and the signals that have them.
use Rattle.std.proofs.Common.{◌≡◌, ℕ, ◌+◌, Bool, true, false, not, ◌||◌, Option, Some, List, [], ◌∷◌, ◌++◌, map, get_or, if◌then◌else◌, bytes_eq, suc, refl, sym, ap, ◌∙◌, append-nil, append_assoc, arith}
use Rattle.std.specs.List.{list_any}
use Rattle.std.proofs.lemmas.List.{map-append}
use Rattle.ice_base.specs.declared.number.SignalNo.{SignalNo}
use Rattle.ice_base.specs.Lists.{with_name, number_of_name}
use Rattle.ice_base.proofs.Keys.{bytes_same}
use Rattle.ice_blif_write.specs.RoundTrip.{named_signal}

-- names, and those that come later
abbrev pub Grows : List (List ℕ) → List (List ℕ) → Type 0
Grows before now = (more : List (List ℕ)) × (now ≡ before ++ more)

pub grows_same : (a : List (List ℕ)) → Grows a a
grows_same a = ([], sym (append-nil a))

pub grows_more : (a b c : List (List ℕ)) → Grows a b → Grows b c → Grows a c
grows_more a b c ab bc = (ab.0 ++ bc.0, bc.1 ∙ ap (λ x. x ++ bc.0) ab.1 ∙ append_assoc a ab.0 bc.0)

pub grows_name : (names : List (List ℕ)) (name : List ℕ) → Grows names (with_name names name)
grows_name names name = by (list_any (bytes_eq name) names)
  where
    by : (b : Bool) → Grows names (if b then names else names ++ name ∷ [])
    by true = grows_same names
    by false = (name ∷ [], refl)

pub with_name_behind : (n : List ℕ) (names : List (List ℕ)) (name : List ℕ) (b : Bool) → (if b then n ∷ names else (n ∷ names) ++ name ∷ []) ≡ n ∷ (if b then names else names ++ name ∷ [])
with_name_behind n names name true = refl
with_name_behind n names name false = refl

-- the number of a name that appears has this name, whatever comes later
pub number_has_name : (names : List (List ℕ)) (name : List ℕ) (later : List (List ℕ)) → get_or (with_name names name ++ later) (number_of_name names name) [] ≡ name
number_has_name [] name later = refl
number_has_name (n ∷ names) name later = by (bytes_eq name n) refl (number_has_name names name later)
  where
    by : (b : Bool) → bytes_eq name n ≡ b → get_or (with_name names name ++ later) (number_of_name names name) [] ≡ name
        → get_or ((if b || list_any (bytes_eq name) names then n ∷ names else (n ∷ names) ++ name ∷ []) ++ later) (if not b then 1 + number_of_name names name else 0) [] ≡ name
    by true e rest = sym (bytes_same name n e)
    by false e rest =
        ap (λ ns. get_or (ns ++ later) (1 + number_of_name names name) []) (with_name_behind n names name (list_any (bytes_eq name) names))
        ∙ ap (λ i. get_or (n ∷ (with_name names name ++ later)) i []) (let e : 1 + number_of_name names name ≡ suc (number_of_name names name) = omega arith in e)
        ∙ rest

-- signals have these names, whatever names come later
abbrev pub Know : List (List ℕ) → List (Option SignalNo) → List (Option (List ℕ)) → Type 0
Know names signals said = (later : List (List ℕ)) → map (named_signal (names ++ later)) signals ≡ said

pub know_later : (before now : List (List ℕ)) (signals : List (Option SignalNo)) (said : List (Option (List ℕ))) → Grows before now → Know before signals said → Know now signals said
know_later before now signals said grows know later =
    ap (λ ns. map (named_signal ns) signals) (ap (λ ns. ns ++ later) grows.1 ∙ append_assoc before grows.0 later) ∙ know (grows.0 ++ later)

-- one signal more
pub know_more : (names : List (List ℕ)) (signals : List (Option SignalNo)) (said : List (Option (List ℕ))) (signal : Option SignalNo) (name : Option (List ℕ))
    → Know names signals said → ((later : List (List ℕ)) → named_signal (names ++ later) signal ≡ name) → Know names (signals ++ signal ∷ []) (said ++ name ∷ [])
know_more names signals said signal name know has later =
    map-append (named_signal (names ++ later)) signals (signal ∷ []) ∙ ap (λ xs. xs ++ named_signal (names ++ later) signal ∷ []) (know later) ∙ ap (λ x. said ++ x ∷ []) (has later)

-- the signal of a name that appears
pub know_name : (names : List (List ℕ)) (name : List ℕ) (later : List (List ℕ)) → named_signal (with_name names name ++ later) (Some (record { 0 = number_of_name names name })) ≡ Some name
know_name names name later = ap Some (number_has_name names name later)
