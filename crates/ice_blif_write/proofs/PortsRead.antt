-- Lines of ports are read as these ports.
use Rattle.std.proofs.Common.{◌≡◌, ◌≢◌, ℕ, ◌+◌, ◌<◌, ◌≤◌, ◌==◌, ◌||◌, ◌⊎◌, not, suc, inl, inr, Bool, true, false, Some, None, Result, Ok, Err, List, [], ◌∷◌, ◌++◌, length, map, get_or, slice_get, nat_lt, if◌then◌else◌, codes, bytes_eq, refl, sym, ap, ◌∙◌, subst, append-nil, append_assoc, length-append, arith, rules, tests}
use Rattle.std.specs.List.{AllByRecursion, IsDistinct, flat_map, list_any, position_or_len}
use Rattle.std.proofs.lemmas.Bool.{cases_lt}
use Rattle.std.proofs.lemmas.Cmp.{nat_list_eq_equiv}
use Rattle.std.proofs.lemmas.List.{map-append}
use Rattle.std.proofs.lemmas.Map.Keys.{apart_from_distinct}
use Rattle.std.proofs.Math.Seq.{set-append_seam}
use Rattle.ice_base.specs.Lists.{with_name, number_of_name}
use Rattle.ice_net.specs.declared.port.Port.{Port}
use Rattle.ice_net.specs.declared.port.Way.{Way}
use Rattle.ice_net.specs.declared.port.Way.TheVariants.{Input, Output, Both}
use Rattle.ice_net.specs.Formed.{IsPortBelow, IsSingle}
use Rattle.ice_net.specs.NetlistData.{NetlistData, is_at, port_at, port_by, port_again, with_port}
use Rattle.ice_net.specs.Ways.{way_of, way_at, way_by}
use Rattle.ice_blif.specs.declared.fault.BlifFault.{BlifFault}
use Rattle.ice_blif.specs.declared.fault.BlifFault.TheVariants.{PortTwice}
use Rattle.ice_blif.specs.Cells.{◌>>=◌}
use Rattle.ice_blif.specs.State.{signal_of, Nothing}
use Rattle.ice_blif.specs.Reading.{NetReading}
use Rattle.ice_blif.specs.Grammar.{was_named, with_named_port, port_says, without_rows, line_says, no_rams}
use Rattle.ice_blif_write.specs.RoundTrip.{named_port}
use Rattle.ice_blif_write.specs.Text.{Words, name_of, port_lines_by, port_lines}
use Rattle.ice_blif_write.proofs.NamesRead.{Grows, grows_name, with_name_behind, number_has_name}
use Rattle.ice_blif_write.proofs.Reading.{numbered_line, Ends, ends_line, grown_names}

-- ---- places of ports
-- no port is at this signal
abbrev IsNoPort : ℕ → List Port → Type 0
IsNoPort s ports = AllByRecursion (λ (p : Port). is_at s p ≡ false) ports

none_before : (s : ℕ) (ports : List Port) (more : List Port) → IsNoPort s ports → position_or_len (is_at s) (ports ++ more) ≡ length ports + position_or_len (is_at s) more
none_before s [] more none = omega arith
none_before s (p ∷ ports) more none =
    ap (λ b. if not b then 1 + position_or_len (is_at s) (ports ++ more) else 0) none.0 ∙ ap (λ n. 1 + n) (none_before s ports more none.1)
    ∙ (let e : 1 + (length ports + position_or_len (is_at s) more) ≡ suc (length ports) + position_or_len (is_at s) more = omega arith in e)

no_place : (s : ℕ) (ports : List Port) → IsNoPort s ports → port_at s ports ≡ None
no_place s ports none =
    let end : position_or_len (is_at s) ports ≡ length ports = ap (position_or_len (is_at s)) (sym (append-nil ports)) ∙ none_before s ports [] none ∙ (let e : length ports + 0 ≡ length ports = omega arith in e) in
    let out : nat_lt (length ports) (length ports) ≡ false = search (rules, tests) in
    ap (λ n. if nat_lt n (length ports) then Some n else None) end ∙ ap (λ b. if b then Some (length ports) else None) out

last_place : (s : ℕ) (ports : List Port) (p : Port) → IsNoPort s ports → is_at s p ≡ true → port_at s (ports ++ p ∷ []) ≡ Some (length ports)
last_place s ports p none at =
    let long : length (ports ++ p ∷ []) ≡ length ports + 1 = length-append ports (p ∷ []) in
    let end : position_or_len (is_at s) (ports ++ p ∷ []) ≡ length ports =
    none_before s ports (p ∷ []) none ∙ ap (λ b. length ports + (if not b then 1 + 0 else 0)) at ∙ (let e : length ports + 0 ≡ length ports = omega arith in e) in
    let within : nat_lt (length ports) (length (ports ++ p ∷ [])) ≡ true = (let lt : length ports < length (ports ++ p ∷ []) = omega (arith, long) in search (rules, tests)) in
    ap (λ n. if nat_lt n (length (ports ++ p ∷ [])) then Some n else None) end ∙ ap (λ b. if b then Some (length ports) else None) within

last_port : (ports : List Port) (p : Port) → slice_get (ports ++ p ∷ []) (length ports) ≡ Some p
last_port [] p = refl
last_port (q ∷ ports) p = last_port ports p

-- ---- a name that appears once more
any_last : (names : List (List ℕ)) (name : List ℕ) → list_any (bytes_eq name) (names ++ name ∷ []) ≡ true
any_last [] name = rw (nat_list_eq_equiv.refl name) refl
any_last (n ∷ names) name = ap (λ b. bytes_eq name n || b) (any_last names name) ∙ or_true (bytes_eq name n)
  where
    or_true : (b : Bool) → (b || true) ≡ true
    or_true true = refl
    or_true false = refl

name_again : (names : List (List ℕ)) (name : List ℕ) → with_name (with_name names name) name ≡ with_name names name
name_again names name = by (list_any (bytes_eq name) names) refl
  where
    by : (b : Bool) → list_any (bytes_eq name) names ≡ b → with_name (if b then names else names ++ name ∷ []) name ≡ (if b then names else names ++ name ∷ [])
    by true e = ap (λ b. if b then names else names ++ name ∷ []) e
    by false e = ap (λ b. if b then names ++ name ∷ [] else (names ++ name ∷ []) ++ name ∷ []) (any_last names name)

number_again : (names : List (List ℕ)) (name : List ℕ) → number_of_name (with_name names name) name ≡ number_of_name names name
number_again [] name = rw (nat_list_eq_equiv.refl name) refl
number_again (n ∷ names) name = by (bytes_eq name n) refl (number_again names name)
  where
    by : (b : Bool) → bytes_eq name n ≡ b → number_of_name (with_name names name) name ≡ number_of_name names name
        → number_of_name (if b || list_any (bytes_eq name) names then n ∷ names else (n ∷ names) ++ name ∷ []) name ≡ (if not b then 1 + number_of_name names name else 0)
    by true e rest = ap (λ b. if not b then 1 + number_of_name names name else 0) e
    by false e rest =
        ap (λ ns. number_of_name ns name) (with_name_behind n names name (list_any (bytes_eq name) names))
        ∙ ap (λ b. if not b then 1 + number_of_name (with_name names name) name else 0) e ∙ ap (λ k. 1 + k) rest

-- ---- a port
-- a netlist with a port more
abbrev pub port_joined : NetlistData → List ℕ → Way → NetlistData
port_joined m name way = record { names = with_name m.names name; ports = m.ports ++ (record { signal = signal_of m name; way = way }) ∷ []; cells = m.cells }

-- a reader of ports
abbrev pub at_ports : NetlistData → NetReading
at_ports m = record { netlist = m; last = Nothing; rows = false }

new_port : (line : ℕ) (way : Way) (m : NetlistData) (name : List ℕ) → IsNoPort (number_of_name m.names name) m.ports → port_says line way m name ≡ Ok (port_joined m name way)
new_port line way m name none =
    let s : ℕ = number_of_name m.names name in
    let no_port : port_at s m.ports ≡ None = no_place s m.ports none in
    ap (λ o. if was_named way (way_at m.ports o) then Err (PortTwice line) else Ok (with_named_port m way name)) no_port
    ∙ ap (λ o. Ok (by_ports m name (port_by m.ports (signal_of m name) way o))) no_port
  where
    by_ports : NetlistData → List ℕ → List Port → NetlistData
    by_ports n w ports = record { names = with_name n.names w; ports = ports; cells = n.cells }

other_way : (line : ℕ) (m : NetlistData) (name : List ℕ) → IsNoPort (number_of_name m.names name) m.ports → port_says line Output (port_joined m name Input) name ≡ Ok (port_joined m name Both)
other_way line m name none =
    let s : ℕ = number_of_name m.names name in
    let n : NetlistData = port_joined m name Input in
    let p : Port = record { signal = signal_of m name; way = Input } in
    let again : number_of_name n.names name ≡ s = number_again m.names name in
    let self : (s == s) ≡ true = search (rules, tests) in
    let at : port_at s n.ports ≡ Some (length m.ports) = last_place s m.ports p none self in
    ap (λ k. if was_named Output (way_of n.ports k) then Err (PortTwice line) else Ok (by_parts n name (with_port n.ports (record { 0 = k }) Output))) again
    ∙ ap (λ o. if was_named Output (way_at n.ports o) then Err (PortTwice line) else Ok (by_parts n name (port_by n.ports (signal_of m name) Output o))) at
    ∙ ap (λ o. if was_named Output (way_by o) then Err (PortTwice line) else Ok (by_parts n name (port_again n.ports (length m.ports) (signal_of m name) Output o))) (last_port m.ports p)
    ∙ ap (λ ports. Ok (by_parts n name ports)) (set-append_seam m.ports p [] (record { signal = signal_of m name; way = Both }))
    ∙ ap (λ names. Ok (record { names = names; ports = m.ports ++ (record { signal = signal_of m name; way = Both }) ∷ []; cells = m.cells })) (name_again m.names name)
  where
    by_parts : NetlistData → List ℕ → List Port → NetlistData
    by_parts n w ports = record { names = with_name n.names w; ports = ports; cells = n.cells }

-- ---- a line
abbrev directive_line : ℕ → NetlistData → Way → List ℕ → Result NetReading BlifFault
directive_line k m way name = (((port_says k way m name >>= (λ n. Ok n)) >>= (λ n. Ok (without_rows n Nothing))) >>= no_rams k)

in_line : (k : ℕ) (m : NetlistData) (name : List ℕ) → line_says no_rams (numbered_line k (codes ".inputs", name ∷ [])) (at_ports m) ≡ directive_line k m Input name
in_line k m name = refl

out_line : (k : ℕ) (m : NetlistData) (name : List ℕ) → line_says no_rams (numbered_line k (codes ".outputs", name ∷ [])) (at_ports m) ≡ directive_line k m Output name
out_line k m name = refl

said_line : (k : ℕ) (way : Way) (m n : NetlistData) (name : List ℕ) → port_says k way m name ≡ Ok n → directive_line k m way name ≡ Ok (at_ports n)
said_line k way m n name says = ap (λ (x : Result NetlistData BlifFault). ((x >>= (λ n. Ok n)) >>= (λ n. Ok (without_rows n Nothing))) >>= no_rams k) says

ways_read : (n m : NetlistData) (name : List ℕ) (way : Way) (rest : List Words) → IsNoPort (number_of_name m.names name) m.ports → Ends n (at_ports (port_joined m name way)) rest
    → Ends n (at_ports m) (port_lines_by name way ++ rest)
ways_read n m name Input rest none later =
    ends_line n (at_ports m) (λ k. at_ports (port_joined m name Input)) (codes ".inputs", name ∷ []) rest refl (λ k. in_line k m name ∙ said_line k Input m (port_joined m name Input) name (new_port k Input m name none)) (λ k. later)
ways_read n m name Output rest none later =
    ends_line n (at_ports m) (λ k. at_ports (port_joined m name Output)) (codes ".outputs", name ∷ []) rest refl (λ k. out_line k m name ∙ said_line k Output m (port_joined m name Output) name (new_port k Output m name none)) (λ k. later)
ways_read n m name Both rest none later =
    ends_line n (at_ports m) (λ k. at_ports (port_joined m name Input)) (codes ".inputs", name ∷ []) ((codes ".outputs", name ∷ []) ∷ rest) refl
    (λ k. in_line k m name ∙ said_line k Input m (port_joined m name Input) name (new_port k Input m name none))
    (λ k. ends_line n (at_ports (port_joined m name Input)) (λ i. at_ports (port_joined m name Both)) (codes ".outputs", name ∷ []) rest refl
    (λ i. out_line i (port_joined m name Input) name ∙ said_line i Output (port_joined m name Input) (port_joined m name Both) name (other_way i m name none)) (λ i. later))

-- ---- all ports
-- the reader has these ports, and no cells
pub record HasPorts (n : NetlistData) (done : List Port) (m : NetlistData) : Type 0 where
  pub are : (later : List (List ℕ)) → map (named_port (m.names ++ later)) m.ports ≡ map (named_port n.names) done
  pub cells : m.cells ≡ []

-- ports of other names
abbrev HaveOther : List (List ℕ) → List ℕ → List Port → Type 0
HaveOther names name ports = AllByRecursion (λ (p : Port). name_of names p.signal ≢ name) ports

no_port_yet : (names read : List (List ℕ)) (s : ℕ) (name : List ℕ) (ports done : List Port) → get_or read s [] ≡ name → map (named_port read) ports ≡ map (named_port names) done → HaveOther names name done
    → IsNoPort s ports
no_port_yet names read s name [] done at same other = tt
no_port_yet names read s name (p ∷ ports) [] at same other = absurd (cc)
no_port_yet names read s name (p ∷ ports) (d ∷ done) at same other =
    let first : named_port read p ≡ named_port names d = cc in
    let rest : map (named_port read) ports ≡ map (named_port names) done = cc in
    (by (p.signal.0 == s) refl (ap (λ x. x.0) first), no_port_yet names read s name ports done at rest other.1)
  where
    by : (b : Bool) → (p.signal.0 == s) ≡ b → name_of read p.signal ≡ name_of names d.signal → b ≡ false
    by false e named = refl
    by true e named = let is : p.signal.0 ≡ s = search (rules, tests) in absurd (other.0 (sym named ∙ ap (λ k. get_or read k []) is ∙ at))

-- signals with different numbers have different names
names_differ : (names : List (List ℕ)) (m k : ℕ) → IsDistinct bytes_eq names → m < length names → k < length names → m ≢ k → get_or names m [] ≢ get_or names k []
names_differ names m k once below below_k ne same = of (cases_lt m k)
  where
    apart : (a b : ℕ) → a < b → b < length names → get_or names a [] ≡ get_or names b [] → ⊥
    apart a b lt within e =
        let differ : bytes_eq (get_or names a []) (get_or names b []) ≡ false = apart_from_distinct bytes_eq names a b [] once lt within in
        let alike : bytes_eq (get_or names a []) (get_or names b []) ≡ true = ap (bytes_eq (get_or names a [])) (sym e) ∙ nat_list_eq_equiv.refl (get_or names a []) in
        let both : true ≡ false = sym alike ∙ differ in
        cc both

    of : (m < k) ⊎ (k ≤ m) → ⊥
    of (inl lt) = apart m k lt below_k same
    of (inr le) = apart k m (omega arith) below (sym same)

signals_apart : (done : List Port) (p : Port) (left : List Port) → IsDistinct ◌==◌ (map (λ (q : Port). q.signal.0) (done ++ p ∷ left)) → AllByRecursion (λ (d : Port). (d.signal.0 == p.signal.0) ≡ false) done
unfolding IsDistinct
signals_apart [] p left h = tt
signals_apart (d ∷ done) p left h = (middle done h.0, signals_apart done p left h.1)
  where
    middle : (ds : List Port) → AllByRecursion (λ k. (d.signal.0 == k) ≡ false) (map (λ (q : Port). q.signal.0) (ds ++ p ∷ left)) → (d.signal.0 == p.signal.0) ≡ false
    middle [] k = k.0
    middle (e ∷ ds) k = middle ds k.1

all_other : (names : List (List ℕ)) (done : List Port) (p : Port) → IsDistinct bytes_eq names → AllByRecursion (IsPortBelow (length names)) done → p.signal.0 < length names
    → AllByRecursion (λ (d : Port). (d.signal.0 == p.signal.0) ≡ false) done → HaveOther names (name_of names p.signal) done
all_other names [] p once below below_p h = tt
all_other names (d ∷ done) p once below below_p h =
    (names_differ names d.signal.0 p.signal.0 once below.0 below_p (let e : (d.signal.0 == p.signal.0) ≡ false = h.0 in search (rules, tests)), all_other names done p once below.1 below_p h.1)

-- one port more
port_more : (n m : NetlistData) (done : List Port) (p : Port) → HasPorts n done m → HasPorts n (done ++ p ∷ []) (port_joined m (name_of n.names p.signal) p.way)
port_more n m done p has =
    let name : List ℕ = name_of n.names p.signal in
    let new : Port = record { signal = signal_of m name; way = p.way } in
    let grows : Grows m.names (with_name m.names name) = grows_name m.names name in
    record {
      are = λ later.
          map-append (named_port (with_name m.names name ++ later)) m.ports (new ∷ [])
          ∙ ap (λ xs. xs ++ named_port (with_name m.names name ++ later) new ∷ []) (ap (λ ns. map (named_port ns) m.ports) (grown_names m.names (with_name m.names name) later grows) ∙ has.are (grows.0 ++ later))
          ∙ ap (λ w. map (named_port n.names) done ++ (w, p.way) ∷ []) (number_has_name m.names name later)
          ∙ sym (map-append (named_port n.names) done (p ∷ []));
      cells = has.cells;
    }

before_below : (signals : ℕ) (done left : List Port) → AllByRecursion (IsPortBelow signals) (done ++ left) → AllByRecursion (IsPortBelow signals) done × AllByRecursion (IsPortBelow signals) left
before_below signals [] left h = (tt, h)
before_below signals (d ∷ done) left h = let rest = before_below signals done left h.1 in ((h.0, rest.0), rest.1)

pub ports_read : (n : NetlistData) (rest : List Words) → IsSingle n → AllByRecursion (IsPortBelow (length n.names)) n.ports → ((m : NetlistData) → HasPorts n n.ports m → Ends n (at_ports m) rest)
    → (done left : List Port) (m : NetlistData) → n.ports ≡ done ++ left → HasPorts n done m → Ends n (at_ports m) (flat_map (port_lines n.names) left ++ rest)
ports_read n rest single below later done [] m all has =
    later m (subst (λ (ports : List Port). HasPorts n ports m) (sym (all ∙ append-nil done)) has)
ports_read n rest single below later done (p ∷ left) m all has =
    let name : List ℕ = name_of n.names p.signal in
    let parts = before_below (length n.names) done (p ∷ left) (subst (AllByRecursion (IsPortBelow (length n.names))) all below) in
    let apart : AllByRecursion (λ (d : Port). (d.signal.0 == p.signal.0) ≡ false) done =
    signals_apart done p left (subst (λ (ports : List Port). IsDistinct ◌==◌ (map (λ (q : Port). q.signal.0) ports)) all single.ports) in
    let other : HaveOther n.names name done = all_other n.names done p single.names parts.0 parts.1.0 apart in
    let grows : Grows m.names (with_name m.names name) = grows_name m.names name in
    let nothing : List (List ℕ) = [] in
    let known : map (named_port (with_name m.names name ++ nothing)) m.ports ≡ map (named_port n.names) done =
    ap (λ ns. map (named_port ns) m.ports) (grown_names m.names (with_name m.names name) nothing grows) ∙ has.are (grows.0 ++ nothing) in
    let none : IsNoPort (number_of_name m.names name) m.ports =
    no_port_yet n.names (with_name m.names name ++ nothing) (number_of_name m.names name) name m.ports done (number_has_name m.names name nothing) known other in
    subst (Ends n (at_ports m)) (sym (append_assoc (port_lines n.names p) (flat_map (port_lines n.names) left) rest))
    (ways_read n m name p.way (flat_map (port_lines n.names) left ++ rest) none
    (ports_read n rest single below later (done ++ p ∷ []) left (port_joined m name p.way) (all ∙ sym (append_assoc done (p ∷ []) left)) (port_more n m done p has)))
