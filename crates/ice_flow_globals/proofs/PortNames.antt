-- Names behind those of a netlist are no names of its ports.
use Rattle.std.proofs.Common.{◌≡◌, ℕ, zero, suc, ◌+◌, ◌<◌, ◌≤◌, Bool, true, false, not, Option, None, Some, List, [], ◌∷◌, ◌++◌, length, nat_lt, refl, sym, ap, ◌∙◌, arith, rules, tests, if◌then◌else◌, bytes_eq, length-append, eqb-true}
use Rattle.std.specs.Prelude.{All, position, slice_get, slice_index_or}
use Rattle.std.specs.List.{position_or_len}
use Rattle.std.specs.Option.{option_and_then}
use Rattle.std.proofs.lemmas.Bool.{false_from_ne_true}
use Rattle.std.proofs.lemmas.List.{get_or_append_left}
use Rattle.ice_base_values.proofs.Members.{Has_all}
use Rattle.ice_net.specs.declared.port.Port.{Port}
use Rattle.ice_net.specs.Formed.{IsPortBelow}
use Rattle.ice_net.specs.NetlistData.{NetlistData, is_at}
use Rattle.ice_pads.specs.Constraints.{is_of_signal, place_of_port, port_named, name_at, port_name, first_passing}

-- ---- places in two lists
place_left : {X : Type 0} (p : X → Bool) (xs ys : List X) → position_or_len p xs < length xs → position_or_len p (xs ++ ys) ≡ position_or_len p xs
place_left p [] ys lt = absurd (omega (arith, lt))
place_left p (x ∷ xs) ys lt = by (p x) lt (λ less. place_left p xs ys less)
  where
    by : (b : Bool) → (if not b then 1 + position_or_len p xs else 0) < length (x ∷ xs) → (position_or_len p xs < length xs → position_or_len p (xs ++ ys) ≡ position_or_len p xs)
        → (if not b then 1 + position_or_len p (xs ++ ys) else 0) ≡ (if not b then 1 + position_or_len p xs else 0)
    by true lt rest = refl
    by false lt rest = ap (λ k. 1 + k) (rest (omega (arith, lt)))

place_right : {X : Type 0} (p : X → Bool) (xs ys : List X) → length xs ≤ position_or_len p xs → length xs ≤ position_or_len p (xs ++ ys)
place_right p [] ys le = omega arith
place_right p (x ∷ xs) ys le = by (p x) le (λ more. place_right p xs ys more)
  where
    by : (b : Bool) → length (x ∷ xs) ≤ (if not b then 1 + position_or_len p xs else 0) → (length xs ≤ position_or_len p xs → length xs ≤ position_or_len p (xs ++ ys))
        → length (x ∷ xs) ≤ (if not b then 1 + position_or_len p (xs ++ ys) else 0)
    by true le rest = absurd (omega (arith, le))
    by false le rest = let more = rest (omega (arith, le)) in omega (arith, more)

-- ---- ports
-- no port has a signal that is above all of them
no_port : (most s : ℕ) (ports : List Port) → All (IsPortBelow most) ports → most ≤ s → (k left : ℕ) → first_passing (λ k. is_of_signal s (slice_get ports k)) k left ≡ None
unfolding first_passing
no_port most s ports below le k zero = refl
no_port most s ports below le k (suc left) =
    ap (λ b. if b then Some k else first_passing (λ k. is_of_signal s (slice_get ports k)) (k + 1) left) (by (slice_get ports k) refl) ∙ no_port most s ports below le (k + 1) left
  where
    by : (o : Option Port) → slice_get ports k ≡ o → is_of_signal s o ≡ false
    by None e = refl
    by (Some port) e =
        let lt : port.signal.0 < most = Has_all (IsPortBelow most) ports port below (k, e) in
        false_from_ne_true (is_at s port) (λ t. (let same : port.signal.0 ≡ s = eqb-true port.signal.0 s t in omega (arith, lt, le, same)))

-- the place of a name
abbrev place_in : List ℕ → List (List ℕ) → ℕ
place_in name names = position_or_len (bytes_eq name) names

-- a name leads to the same port with names behind those of the netlist
pub same_port : (n m : NetlistData) (more : List (List ℕ)) (name : List ℕ) → All (IsPortBelow (length n.names)) n.ports → m.ports ≡ n.ports → m.names ≡ n.names ++ more → port_named m name ≡ port_named n name
same_port n m more name below ports names =
    ap (λ ps. option_and_then (place_of_port ps) (position (bytes_eq name) m.names)) ports
    ∙ ap (λ ns. option_and_then (place_of_port n.ports) (position (bytes_eq name) ns)) names
    ∙ by (nat_lt (place_in name n.names) (length n.names)) refl
  where
    behind : (b : Bool) → length n.names ≤ place_in name (n.names ++ more) → option_and_then (place_of_port n.ports) (if b then Some (place_in name (n.names ++ more)) else None) ≡ None
    behind true le = no_port (length n.names) (place_in name (n.names ++ more)) n.ports below le 0 (length n.ports)
    behind false le = refl

    by : (b : Bool) → nat_lt (place_in name n.names) (length n.names) ≡ b → option_and_then (place_of_port n.ports) (position (bytes_eq name) (n.names ++ more)) ≡ option_and_then (place_of_port n.ports) (position (bytes_eq name) n.names)
    by true e =
        let lt : place_in name n.names < length n.names = search (rules, tests) in
        let same : place_in name (n.names ++ more) ≡ place_in name n.names = place_left (bytes_eq name) n.names more lt in
        let long = length-append n.names more in
        let also : nat_lt (place_in name (n.names ++ more)) (length (n.names ++ more)) ≡ true = (let less : place_in name (n.names ++ more) < length (n.names ++ more) = omega (arith, same, lt, long) in search (rules, tests)) in
        ap (λ b. option_and_then (place_of_port n.ports) (if b then Some (place_in name (n.names ++ more)) else None)) also
        ∙ ap (λ k. option_and_then (place_of_port n.ports) (Some k)) same
        ∙ ap (λ b. option_and_then (place_of_port n.ports) (if b then Some (place_in name n.names) else None)) (sym e)
    by false e =
        let le : length n.names ≤ place_in name n.names = search (rules, tests) in
        behind (nat_lt (place_in name (n.names ++ more)) (length (n.names ++ more))) (place_right (bytes_eq name) n.names more le)
        ∙ ap (λ b. option_and_then (place_of_port n.ports) (if b then Some (place_in name n.names) else None)) (sym e)

-- a signal of the netlist keeps its name
pub same_name : (n m : NetlistData) (more : List (List ℕ)) (s : ℕ) → s < length n.names → m.names ≡ n.names ++ more → slice_index_or m.names s [] ≡ slice_index_or n.names s []
same_name n m more s lt names = ap (λ (ns : List (List ℕ)). slice_index_or ns s []) names ∙ get_or_append_left n.names more [] s lt

pub same_port_name : (n m : NetlistData) (more : List (List ℕ)) (k : ℕ) → All (IsPortBelow (length n.names)) n.ports → m.ports ≡ n.ports → m.names ≡ n.names ++ more → port_name m k ≡ port_name n k
same_port_name n m more k below ports names = ap (λ ps. name_at m (slice_get ps k)) ports ∙ by (slice_get n.ports k) refl
  where
    by : (o : Option Port) → slice_get n.ports k ≡ o → name_at m o ≡ name_at n o
    by None e = refl
    by (Some port) e = same_name n m more port.signal.0 (Has_all (IsPortBelow (length n.names)) n.ports port below (k, e)) names
