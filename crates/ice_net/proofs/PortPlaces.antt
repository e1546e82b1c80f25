-- The place of each signal's port, as ports are added.
use Rattle.std.proofs.Common.{◌≡◌, ◌≢◌, ℕ, ◌+◌, ◌<◌, ◌≤◌, ◌==◌, Bool, true, false, not, List, [], ◌∷◌, ◌++◌, length, length-append, refl, sym, ap, ◌∙◌, arith, rules, tests, if◌then◌else◌, Option, Some, None, nat_lt, slice_index_or, slice_set, get_or-set_other, get_or-set_same}
use Rattle.std.specs.List.{position_or_len}
use Rattle.std.proofs.lemmas.List.Folds.{position_or_len_push}
use Rattle.ice_base.specs.declared.number.SignalNo.{SignalNo}
use Rattle.ice_net.specs.declared.port.Port.{Port}
use Rattle.ice_net.specs.declared.port.Way.{Way}
use Rattle.ice_net.specs.NetlistData.{is_at, port_at}
use Rattle.ice_net.specs.Ways.{PlacesAre}

first_within : {X : Type 0} (p : X → Bool) (xs : List X) → position_or_len p xs ≤ length xs
first_within p [] = omega arith
first_within p (x ∷ xs) = by (not (p x)) (first_within p xs)
  where
    by : (b : Bool) → position_or_len p xs ≤ length xs → (if b then 1 + position_or_len p xs else 0) ≤ length (x ∷ xs)
    by true h = omega (arith, h)
    by false h = omega arith

-- the place where the first of n is, if it is before the end
abbrev pub place_before : ℕ → ℕ → Option ℕ
place_before first n = if nat_lt first n then Some first else None

before_end : (first n : ℕ) → first < n → place_before first n ≡ Some first
before_end first n lt = let test : nat_lt first n ≡ true = search (rules, tests) in rw test refl

at_end : (first n : ℕ) → n ≤ first → place_before first n ≡ None
at_end first n le = let test : nat_lt first n ≡ false = search (rules, tests) in rw test refl

-- a port that is put last and is of another signal
other_step : (first n : ℕ) (b : Bool) → (first == n) ≡ b → first ≤ n → place_before (if b then n + 1 else first) (n + 1) ≡ place_before first n
other_step first n true e le = let is : first ≡ n = search (rules, tests) in at_end (n + 1) (n + 1) (omega arith) ∙ sym (at_end first n (omega arith))
other_step first n false e le = let ne : first ≢ n = search (rules, tests) in before_end first (n + 1) (omega arith) ∙ sym (before_end first n (omega arith))

-- a port that is put last and is the first of its signal
new_step : (first n : ℕ) (b : Bool) → (first == n) ≡ b → first ≤ n → place_before first n ≡ None → place_before (if b then n + 0 else first) (n + 1) ≡ Some n
new_step first n true e le none = before_end (n + 0) (n + 1) (omega arith) ∙ ap Some (omega arith)
new_step first n false e le none =
    let ne : first ≢ n = search (rules, tests) in
    let found : Some first ≡ None = sym (before_end first n (omega arith)) ∙ none in
    absurd (cc)

pushed : (s : ℕ) (ports : List Port) (port : Port) (b : Bool) → is_at s port ≡ b
    → port_at s (ports ++ port ∷ []) ≡ place_before (if position_or_len (is_at s) ports == length ports then length ports + (if b then 0 else 1) else position_or_len (is_at s) ports) (length ports + 1)
pushed s ports port b is =
    let long : length (ports ++ port ∷ []) ≡ length ports + 1 = omega (arith, length-append ports (port ∷ [])) in
    ap (λ n. place_before (position_or_len (is_at s) (ports ++ port ∷ [])) n) long
    ∙ ap (λ first. place_before first (length ports + 1)) (position_or_len_push (is_at s) ports port)
    ∙ ap (λ c. place_before (if position_or_len (is_at s) ports == length ports then length ports + (if c then 0 else 1) else position_or_len (is_at s) ports) (length ports + 1)) is

pushed_other : (s : ℕ) (ports : List Port) (port : Port) → is_at s port ≡ false → port_at s (ports ++ port ∷ []) ≡ port_at s ports
pushed_other s ports port is = pushed s ports port false is ∙ other_step (position_or_len (is_at s) ports) (length ports) (position_or_len (is_at s) ports == length ports) refl (first_within (is_at s) ports)

pushed_new : (s : ℕ) (ports : List Port) (port : Port) → is_at s port ≡ true → port_at s ports ≡ None → port_at s (ports ++ port ∷ []) ≡ Some (length ports)
pushed_new s ports port is none = pushed s ports port true is ∙ new_step (position_or_len (is_at s) ports) (length ports) (position_or_len (is_at s) ports == length ports) refl (first_within (is_at s) ports) none

-- the places of all ports where the first port of a signal is put last
pub new_place : (ports : List Port) (places : List (Option ℕ)) (signal : SignalNo) (way : Way) → PlacesAre ports places → signal.0 < length places
    → slice_index_or places signal.0 None ≡ None
    → PlacesAre (ports ++ (record { signal = signal; way = way }) ∷ []) (slice_set places signal.0 (Some (length ports)))
new_place ports places signal way are lt none s = by (signal.0 == s) refl
  where
    by : (b : Bool) → (signal.0 == s) ≡ b → slice_index_or (slice_set places signal.0 (Some (length ports))) s None ≡ port_at s (ports ++ (record { signal = signal; way = way }) ∷ [])
    by true e =
        let same : signal.0 ≡ s = search (rules, tests) in
        ap (λ k. slice_index_or (slice_set places signal.0 (Some (length ports))) k None) (sym same)
        ∙ get_or-set_same places signal.0 (Some (length ports)) None lt
        ∙ sym (pushed_new s ports (record { signal = signal; way = way }) e (sym (are s) ∙ ap (λ k. slice_index_or places k None) (sym same) ∙ none))
    by false e =
        let differ : s ≢ signal.0 = search (rules, tests) in
        get_or-set_other places signal.0 s (Some (length ports)) None differ ∙ are s ∙ sym (pushed_other s ports (record { signal = signal; way = way }) e)
