-- No name of a netlist stands twice, and no signal is a port twice.
use Rattle.std.proofs.Common.{◌≡◌, ◌<◌, ◌==◌, ◌||◌, not, ℕ, ◌+◌, zero, suc, Bool, true, false, Option, None, Some, List, [], ◌∷◌, ◌++◌, length, if◌then◌else◌, bytes_eq, slice_get, slice_set, nat_lt, refl, sym, ap, ◌∙◌, subst, rules, tests, arith}
use Rattle.std.specs.List.{list_any, position_or_len, IsDistinct}
use Rattle.std.proofs.lemmas.Cmp.{nat_eq_equiv, nat_list_eq_equiv}
use Rattle.std.proofs.lemmas.Map.Keys.{IsDistinct-push}
use Rattle.ice_base.specs.Lists.{with_name}
use Rattle.ice_base.specs.declared.number.SignalNo.{SignalNo}
use Rattle.ice_net.specs.declared.port.Port.{Port}
use Rattle.ice_net.specs.declared.port.Way.{Way}
use Rattle.ice_net.specs.NetlistData.{empty_netlist, with_port, port_by, port_again, port_at, is_at, merged}
use Rattle.ice_net.specs.Formed.{IsSingle, port_numbers}

pub empty_single : IsSingle empty_netlist
unfolding IsDistinct
empty_single = record { names = tt; ports = tt }

-- one more name
pub names_once : (names : List (List ℕ)) (name : List ℕ) → IsDistinct bytes_eq names → IsDistinct bytes_eq (with_name names name)
names_once names name once = by (list_any (bytes_eq name) names) refl
  where
    by : (b : Bool) → list_any (bytes_eq name) names ≡ b → IsDistinct bytes_eq (if b then names else names ++ name ∷ [])
    by true e = once
    by false e = IsDistinct-push nat_list_eq_equiv names name once e

-- an item that passes a test stands somewhere
any_before : {X : Type 0} (p : X → Bool) (xs : List X) → list_any p xs ≡ true → position_or_len p xs < length xs
any_before p [] e = cc e
any_before p (x ∷ xs) e = by (p x) e (any_before p xs)
  where
    by : (b : Bool) → (b || list_any p xs) ≡ true → (list_any p xs ≡ true → position_or_len p xs < length xs) → (if not b then 1 + position_or_len p xs else 0) < length (x ∷ xs)
    by true h rest = omega arith
    by false h rest = omega (arith, rest h)

numbers_any : (s : ℕ) (ports : List Port) → list_any (λ k. s == k) (port_numbers ports) ≡ list_any (is_at s) ports
numbers_any s [] = refl
numbers_any s (p ∷ ports) = ap (λ b. b || list_any (λ k. s == k) (port_numbers ports)) (nat_eq_equiv.symm s p.signal.0) ∙ ap (λ b. is_at s p || b) (numbers_any s ports)

-- no port is at a signal of which no port is found
none_has : (signal : SignalNo) (ports : List Port) → port_at signal.0 ports ≡ None → list_any (λ k. signal.0 == k) (port_numbers ports) ≡ false
none_has signal ports e = by (list_any (is_at signal.0) ports) refl
  where
    by : (b : Bool) → list_any (is_at signal.0) ports ≡ b → list_any (λ k. signal.0 == k) (port_numbers ports) ≡ false
    by true h =
        let lt : position_or_len (is_at signal.0) ports < length ports = any_before (is_at signal.0) ports h in
        let test : nat_lt (position_or_len (is_at signal.0) ports) (length ports) ≡ true = search (rules, tests) in
        let found : Some (position_or_len (is_at signal.0) ports) ≡ None = sym (ap (λ c. if c then Some (position_or_len (is_at signal.0) ports) else None) test) ∙ e in
        cc found
    by false h = numbers_any signal.0 ports ∙ h

numbers_set : (ports : List Port) (k : ℕ) (port : Port) (way : Way) → slice_get ports k ≡ Some port → port_numbers (slice_set ports k (record { signal = port.signal; way = way })) ≡ port_numbers ports
numbers_set [] k port way e = refl
numbers_set (p ∷ ports) zero port way e = let same : p ≡ port = cc in ap (λ (x : Port). x.signal.0 ∷ port_numbers ports) (sym same)
numbers_set (p ∷ ports) (suc k) port way e = ap (λ ks. p.signal.0 ∷ ks) (numbers_set ports k port way e)

numbers_push : (ports : List Port) (port : Port) → port_numbers (ports ++ port ∷ []) ≡ port_numbers ports ++ port.signal.0 ∷ []
numbers_push [] port = refl
numbers_push (p ∷ ports) port = ap (λ ks. p.signal.0 ∷ ks) (numbers_push ports port)

again_once : (ports : List Port) (k : ℕ) (signal : SignalNo) (way : Way) (o : Option Port) → slice_get ports k ≡ o → IsDistinct ◌==◌ (port_numbers ports) → IsDistinct ◌==◌ (port_numbers (port_again ports k signal way o))
again_once ports k signal way None e once = once
again_once ports k signal way (Some port) e once = subst (λ ks. IsDistinct ◌==◌ ks) (sym (numbers_set ports k port (merged port.way way) e)) once

-- one more port
pub ports_once : (ports : List Port) (signal : SignalNo) (way : Way) (o : Option ℕ) → port_at signal.0 ports ≡ o → IsDistinct ◌==◌ (port_numbers ports) → IsDistinct ◌==◌ (port_numbers (port_by ports signal way o))
ports_once ports signal way None e once =
    subst (λ ks. IsDistinct ◌==◌ ks) (sym (numbers_push ports (record { signal = signal; way = way }))) (IsDistinct-push nat_eq_equiv (port_numbers ports) signal.0 once (none_has signal ports e))
ports_once ports signal way (Some k) e once = again_once ports k signal way (slice_get ports k) refl once

-- in the words of the netlist's fields: what stands once still does
pub ports_still_once : (ports now : List Port) (signal : SignalNo) (way : Way) → now ≡ with_port ports signal way → IsDistinct ◌==◌ (port_numbers ports) → IsDistinct ◌==◌ (port_numbers now)
ports_still_once ports now signal way is once = subst (λ ps. IsDistinct ◌==◌ (port_numbers ps)) (sym is) (ports_once ports signal way (port_at signal.0 ports) refl once)
