-- The pads that ports have by the constraints that were read are those by the pins that the text says.
use Rattle.std.proofs.Common.{◌≡◌, ◌∙◌, ℕ, ◌+◌, ◌==◌, suc, Bool, true, false, Option, None, Some, List, [], ◌∷◌, length, map, filter_map, option_map, slice_get, position, IfOk, Result, Ok, Err, bytes_eq, if◌then◌else◌, refl, ap, sym, subst, arith}
use Rattle.std.specs.Prelude.{codes}
use Rattle.std.specs.Map.{lookup}
use Rattle.std.specs.Option.{option_and_then}
use Rattle.std.proofs.lemmas.Option.{slice_get-map, same_Some}
use Rattle.ice_base.proofs.Keys.{bytes_same}
use Rattle.ice_base.specs.Text.{lines, numbered, next_number, words, begins_with, uncommented}
use Rattle.ice_base.specs.declared.number.SignalNo.{SignalNo}
use Rattle.ice_base_values.specs.Order.{At}
use Rattle.ice_net.specs.Drivers.{place_of}
use Rattle.ice_net.specs.NetlistData.{NetlistData}
use Rattle.ice_net.specs.declared.port.Port.{Port}
use Rattle.ice_pcf.specs.declared.constraint.Constraint.{Constraint}
use Rattle.ice_pcf.specs.declared.constraint.Options.{Options}
use Rattle.ice_pcf.specs.declared.fault.PcfFault.{PcfFault}
use Rattle.ice_pcf.specs.declared.fault.PcfFault.TheVariants.{UnknownWord}
use Rattle.ice_pcf.specs.Grammar.{◌>>=◌, with_pullup, with_lenient, is_lenient_option, pin_says, set_io_says, words_say, no_options, with_constraint, pin_lines_say, pin_text_says}
use Rattle.ice_chip.specs.Database.{PackageRows}
use Rattle.ice_chip.specs.declared.rows.Pad.{Pad}
use Rattle.ice_pads.specs.Constraints.{is_of_signal, first_passing, place_of_port, port_named, HavePads}
use Rattle.ice_flow_build_cmd.specs.Pinned.{last_two, pin_set, pins_set, port_called, HavePinnedPads}
use Rattle.ice_flow_build_cmd.specs.PinTexts.{pair_of, PinTextsSetPins}

-- ---- the text
bound : {A B : Type 0} (P : B → Type 0) (Q : A → Type 0) (m : Result A PcfFault) (f : A → Result B PcfFault) → IfOk m Q → ((x : A) → Q x → IfOk (f x) P) → IfOk (m >>= f) P
bound P Q (Ok x) f q h = h x q
bound P Q (Err e) f q h = tt

-- the last two of some words are those of more in front of them
longer : (w : List ℕ) (ws : List (List ℕ)) (p : List ℕ × List ℕ) → last_two ws ≡ Some p → last_two (w ∷ ws) ≡ Some p
longer w [] p e = absurd (cc)
longer w (x ∷ []) p e = absurd (cc)
longer w (x ∷ y ∷ ws) p e = e

abbrev IsLast : List (List ℕ) → Constraint → Type 0
IsLast ws c = last_two ws ≡ Some (pair_of c)

one_more : (w : List ℕ) (ws : List (List ℕ)) (m : Result Constraint PcfFault) → IfOk m (IsLast ws) → IfOk m (IsLast (w ∷ ws))
one_more w ws (Ok c) is = longer w ws (pair_of c) is
one_more w ws (Err fault) is = tt

pin_last : (line : ℕ) (options : Options) (name : List ℕ) (ws : List (List ℕ)) → IfOk (pin_says line options name ws) (IsLast (name ∷ ws))
pin_last line options name [] = tt
pin_last line options name (pin ∷ []) = refl
pin_last line options name (pin ∷ extra ∷ ws) = tt

options_last : (line : ℕ) (ws : List (List ℕ)) (due : Bool) (options : Options) → IfOk (set_io_says line due options ws) (IsLast ws)
options_last line [] true options = tt
options_last line [] false options = tt
options_last line (w ∷ ws) true options = by (bytes_eq w (codes "yes")) (bytes_eq w (codes "no")) (options_last line ws false (with_pullup true options)) (options_last line ws false (with_pullup false options))
  where
    by : (a b : Bool) → IfOk (set_io_says line false (with_pullup true options) ws) (IsLast ws) → IfOk (set_io_says line false (with_pullup false options) ws) (IsLast ws)
        → IfOk (if a then set_io_says line false (with_pullup true options) ws else (if b then set_io_says line false (with_pullup false options) ws else Err (UnknownWord line))) (IsLast (w ∷ ws))
    by true b on off = one_more w ws (set_io_says line false (with_pullup true options) ws) on
    by false true on off = one_more w ws (set_io_says line false (with_pullup false options) ws) off
    by false false on off = tt
options_last line (w ∷ ws) false options = by (bytes_eq w (codes "-pullup")) (is_lenient_option w) (begins_with 45 w) (options_last line ws true options) (options_last line ws false (with_lenient options))
  where
    by : (a b c : Bool) → IfOk (set_io_says line true options ws) (IsLast ws) → IfOk (set_io_says line false (with_lenient options) ws) (IsLast ws)
        → IfOk (if a then set_io_says line true options ws else (if b then set_io_says line false (with_lenient options) ws else (if c then Err (UnknownWord line) else pin_says line options w ws))) (IsLast (w ∷ ws))
    by true b c due lenient = one_more w ws (set_io_says line true options ws) due
    by false true c due lenient = one_more w ws (set_io_says line false (with_lenient options) ws) lenient
    by false false true due lenient = tt
    by false false false due lenient = pin_last line options w ws

-- the pin that a line sets, if it is read as one
abbrev Sets : List (List ℕ) → Option Constraint → Type 0
Sets ws o = pin_set ws ≡ option_map pair_of o

line_sets : (line : ℕ) (ws : List (List ℕ)) → IfOk (words_say line ws) (Sets ws)
line_sets line [] = refl
line_sets line (w ∷ ws) = by (bytes_eq w (codes "set_frequency")) (bytes_eq w (codes "set_io")) refl refl
  where
    none : bytes_eq w (codes "set_frequency") ≡ true → bytes_eq w (codes "set_io") ≡ false
    none e = ap (λ (v : List ℕ). bytes_eq v (codes "set_io")) (bytes_same w (codes "set_frequency") e)

    by : (a b : Bool) → bytes_eq w (codes "set_frequency") ≡ a → bytes_eq w (codes "set_io") ≡ b
        → IfOk (if a then Ok None else (if b then set_io_says line false no_options ws >>= (λ constraint. Ok (Some constraint)) else Err (UnknownWord line))) (Sets (w ∷ ws))
    by true b e f = rw (none e) refl
    by false true e f =
        bound (Sets (w ∷ ws)) (IsLast ws) (set_io_says line false no_options ws) _ (options_last line ws false no_options) (λ c is. rw f is)
    by false false e f = tt

-- the pins that lines set are those of the constraints read
abbrev pins_of_lines : List (List ℕ) → List (List ℕ × List ℕ)
pins_of_lines ls = filter_map pin_set (map (λ (line : List ℕ). uncommented (words line)) ls)

lines_set : (n : ℕ) (ls : List (List ℕ)) → IfOk (pin_lines_say (numbered n ls)) (λ (cs : List Constraint). pins_of_lines ls ≡ map pair_of cs)
lines_set n [] = refl
lines_set n (l ∷ ls) =
    bound (λ (cs : List Constraint). pins_of_lines (l ∷ ls) ≡ map pair_of cs) (Sets (uncommented (words l))) (words_say n (uncommented (words l))) _ (line_sets n (uncommented (words l))) (λ o sets.
    bound (λ (cs : List Constraint). pins_of_lines (l ∷ ls) ≡ map pair_of cs) (λ (cs : List Constraint). pins_of_lines ls ≡ map pair_of cs) (pin_lines_say (numbered (next_number n) ls)) _ (lines_set (next_number n) ls) (λ cs same.
    by o sets cs same))
  where
    by : (o : Option Constraint) → Sets (uncommented (words l)) o → (cs : List Constraint) → pins_of_lines ls ≡ map pair_of cs → pins_of_lines (l ∷ ls) ≡ map pair_of (with_constraint o cs)
    by None sets cs same = rw sets same
    by (Some c) sets cs same = rw sets (ap (λ (pairs : List (List ℕ × List ℕ)). pair_of c ∷ pairs) same)

pub text_sets : PinTextsSetPins
text_sets text cs e = subst (λ (said : Result (List Constraint) PcfFault). IfOk said (λ (known : List Constraint). pins_set text ≡ map pair_of known)) e (lines_set 1 (lines text))

-- ---- the ports
abbrev signals_of : List Port → List (Option SignalNo)
signals_of ports = map (λ (port : Port). Some port.signal) ports

-- the first port of a signal, in a list of ports that stand from place n on
passing : (s : ℕ) (f : ℕ → Option Port) (n : ℕ) (ports : List Port) → ((i : ℕ) → f (n + i) ≡ slice_get ports i)
    → first_passing (λ k. is_of_signal s (f k)) n (length ports) ≡ option_map (λ i. n + i) (place_of s (signals_of ports))
unfolding first_passing
passing s f n [] is = refl
passing s f n (port ∷ ports) is =
    ap (λ (o : Option Port). if is_of_signal s o then Some n else first_passing (λ k. is_of_signal s (f k)) (n + 1) (length ports)) (ap f at ∙ is 0)
    ∙ by (port.signal.0 == s) (passing s f (n + 1) ports (λ i. let same : n + 1 + i ≡ n + suc i = omega arith in ap f same ∙ is (suc i)))
  where
    at : n ≡ n + 0
    at = omega arith

    later : (o : Option ℕ) → option_map (λ i. n + 1 + i) o ≡ option_map (λ i. n + i) (option_map suc o)
    later None = refl
    later (Some i) = let same : n + 1 + i ≡ n + suc i = omega arith in ap (λ (k : ℕ). Some k) same

    by : (b : Bool) → first_passing (λ k. is_of_signal s (f k)) (n + 1) (length ports) ≡ option_map (λ i. n + 1 + i) (place_of s (signals_of ports))
        → (if b then Some n else first_passing (λ k. is_of_signal s (f k)) (n + 1) (length ports)) ≡ option_map (λ i. n + i) (if b then Some 0 else option_map suc (place_of s (signals_of ports)))
    by true rest = ap (λ (k : ℕ). Some k) at
    by false rest = rest ∙ later (place_of s (signals_of ports))

named_alike : (n : NetlistData) (name : List ℕ) → port_named n name ≡ port_called n name
named_alike n name = by (position (bytes_eq name) n.names)
  where
    from : (i : ℕ) → slice_get n.ports (0 + i) ≡ slice_get n.ports i
    from i = let same : 0 + i ≡ i = omega arith in ap (slice_get n.ports) same

    whole : (o : Option ℕ) → option_map (λ i. 0 + i) o ≡ o
    whole None = refl
    whole (Some i) = let same : 0 + i ≡ i = omega arith in ap (λ (k : ℕ). Some k) same

    by : (o : Option ℕ) → option_and_then (place_of_port n.ports) o ≡ option_and_then (λ s. place_of s (signals_of n.ports)) o
    by None = refl
    by (Some s) = passing s (slice_get n.ports) 0 n.ports from ∙ whole (place_of s (signals_of n.ports))

-- a pair of a list of constraints is that of one of them
pair_at : (cs : List Constraint) (i : ℕ) (pair : List ℕ × List ℕ) → At (map pair_of cs) i pair → (c : Constraint) × At cs i c × (pair_of c ≡ pair)
pair_at cs i pair at = by (slice_get cs i) refl (sym (slice_get-map pair_of cs i) ∙ at)
  where
    by : (o : Option Constraint) → slice_get cs i ≡ o → option_map pair_of o ≡ Some pair → (c : Constraint) × At cs i c × (pair_of c ≡ pair)
    by None e is = absurd (cc)
    by (Some c) e is = (c, e, same_Some (pair_of c) pair is)

pub pinned_pads : (bonded : PackageRows) (text : List ℕ) (cs : List Constraint) (n : NetlistData) (ports : List Pad) → pin_text_says text ≡ Ok cs → HavePads bonded cs n ports → HavePinnedPads bonded (pins_set text) n ports
pinned_pads bonded text cs n ports says have = record {
  each = have.each;
  of_package = have.of_package;
  apart = have.apart;
  pinned = λ name pin k pad has called at.
      let one = pair_at cs has.0 (name, pin) (sym (ap (λ (pairs : List (List ℕ × List ℕ)). slice_get pairs has.0) (text_sets text cs says)) ∙ has.1) in
      let port = ap (λ (word : List ℕ). port_named n word) (ap (λ (p : List ℕ × List ℕ). p.0) one.2) ∙ named_alike n name ∙ called in
      subst (λ (word : List ℕ). lookup (bytes_eq word) bonded.pins ≡ Some pad) (ap (λ (p : List ℕ × List ℕ). p.1) one.2) (have.constrained one.0 k pad (has.0, one.1) port at);
}
