-- A gate and its parameters are read as its cell.
use Rattle.std.proofs.Common.{◌≡◌, ℕ, ◌+◌, ◌<◌, ◌≤◌, suc, Bool, false, Option, Some, None, Result, Ok, List, [], ◌∷◌, ◌++◌, length, map, take, drop, nat_le, codes, refl, sym, ap, ◌∙◌, subst, append_assoc, length-append, arith, rules, tests, All}
use Rattle.std.specs.List.{AllByRecursion}
use Rattle.std.proofs.lemmas.List.{map-append, take-map, drop-map, length-map}
use Rattle.std.proofs.lemmas.List.Elements.{All-get_or}
use Rattle.std.proofs.Math.Seq.{drop-append_seam, take-append_seam}
use Rattle.ice_base.specs.declared.number.SignalNo.{SignalNo}
use Rattle.ice_net.specs.declared.cell.Cell.{Cell}
use Rattle.ice_net.specs.declared.kind.CellKind.{CellKind}
use Rattle.ice_net.specs.Formed.{IsBelow}
use Rattle.ice_net.specs.Kinds.{ins_count, outs_count}
use Rattle.ice_net.specs.NetlistData.{NetlistData}
use Rattle.ice_blif.specs.declared.fault.BlifFault.{BlifFault}
use Rattle.ice_blif.specs.Cells.{◌>>=◌, kind_says}
use Rattle.ice_blif.specs.GateForms.{GateForm}
use Rattle.ice_blif.specs.Gates.{plain_gate, gate_kind_of}
use Rattle.ice_blif.specs.Grammar.{no_wiring, cell_of, with_last, gate_of_kind, line_says, no_rams}
use Rattle.ice_blif.specs.State.{LastCell, Gate, with_kind}
use Rattle.ice_blif.specs.Reading.{Connections, NetReading}
use Rattle.ice_blif_write.specs.RoundTrip.{IsName, named_signal, IsDefined}
use Rattle.ice_blif_write.specs.Text.{name_of, connections, param_line}
use Rattle.ice_blif_write.proofs.GateRead.{MayBeActual, AreActuals, ArePlaced, IsWired, none_wired, nones, AreRead, signals_read}
use Rattle.ice_blif_write.proofs.NamesRead.{Know}
use Rattle.ice_blif_write.proofs.Reading.{numbered_line, GrewBy}

-- ---- names
-- the name of a signal that may be missing can be written
abbrev pub MayBeNamed : List (List ℕ) → Option SignalNo → Type 0
MayBeNamed names None = Unit {0}
MayBeNamed names (Some signal) = IsName (name_of names signal)

below_named : (names : List (List ℕ)) → All IsName names → (signal : Option SignalNo) → IsBelow (length names) signal → MayBeNamed names signal
below_named names are None below = tt
below_named names are (Some signal) below = All-get_or IsName names signal.0 [] below are

pub all_named : (names : List (List ℕ)) → All IsName names → (signals : List (Option SignalNo)) → AllByRecursion (IsBelow (length names)) signals → AllByRecursion (MayBeNamed names) signals
all_named names are [] below = tt
all_named names are (signal ∷ signals) below = (below_named names are signal below.0, all_named names are signals below.1)

-- ---- actuals
input_actual : (names : List (List ℕ)) (kind : CellKind) (k : ℕ) (signal : Option SignalNo) → k < ins_count kind → MayBeNamed names signal → MayBeActual names (nat_le (ins_count kind) k) signal
input_actual names kind k None lt named = tt
input_actual names kind k (Some signal) lt named = record {
  name = named;
  defined = λ e. let le : ins_count kind ≤ k = search (rules, tests) in absurd (omega arith);
}

output_actual : (names : List (List ℕ)) (output : Bool) (signal : Option SignalNo) → MayBeNamed names signal → IsDefined names signal → MayBeActual names output signal
output_actual names output None named defined = tt
output_actual names output (Some signal) named defined = record { name = named; defined = λ e. defined }

outputs_actual : (names : List (List ℕ)) (kind : CellKind) (k : ℕ) (outs : List (Option SignalNo)) → AllByRecursion (MayBeNamed names) outs → AllByRecursion (IsDefined names) outs → AreActuals names kind k outs
outputs_actual names kind k [] named defined = tt
outputs_actual names kind k (out ∷ outs) named defined = (output_actual names (nat_le (ins_count kind) k) out named.0 defined.0, outputs_actual names kind (suc k) outs named.1 defined.1)

pub all_actual : (names : List (List ℕ)) (kind : CellKind) (k : ℕ) (ins outs : List (Option SignalNo)) → k + length ins ≡ ins_count kind
    → AllByRecursion (MayBeNamed names) ins → AllByRecursion (MayBeNamed names) outs → AllByRecursion (IsDefined names) outs → AreActuals names kind k (ins ++ outs)
all_actual names kind k [] outs long named outs_named defined = outputs_actual names kind k outs outs_named defined
all_actual names kind k (signal ∷ ins) outs long named outs_named defined =
    (input_actual names kind k signal (omega arith) named.0, all_actual names kind (suc k) ins outs (omega arith) named.1 outs_named defined)

-- ---- the cell of a gate's first line
-- a reader has made this cell of a gate, up to parameters, and has this netlist
pub record IsGateRead (names : List (List ℕ)) (r : NetReading) (kind : CellKind) (ins outs : List (Option SignalNo)) (read : NetlistData) (cell : Cell) : Type 0 where
  pub grew : GrewBy r.netlist read
  pub kind_is : cell.kind ≡ kind
  pub know_ins : Know read.names cell.ins (map (named_signal names) ins)
  pub know_outs : Know read.names cell.outs (map (named_signal names) outs)

-- what is known of a whole list, of its first k
pub first_known : (names read : List (List ℕ)) (front rest ins outs : List (Option SignalNo)) (k : ℕ) → length ins ≡ k → Know read front (map (named_signal names) (ins ++ outs))
    → Know read (take k (front ++ rest)) (map (named_signal names) ins)
first_known names read front rest ins outs k e know later =
    let f = named_signal (read ++ later) in
    sym (take-map f k (front ++ rest)) ∙ ap (take k) (map-append f front rest) ∙ ap (λ xs. take k (xs ++ map f rest)) (know later ∙ map-append (named_signal names) ins outs)
    ∙ ap (take k) (append_assoc (map (named_signal names) ins) (map (named_signal names) outs) (map f rest))
    ∙ ap (λ n. take n (map (named_signal names) ins ++ (map (named_signal names) outs ++ map f rest))) (sym e ∙ sym (length-map ins (named_signal names)))
    ∙ take-append_seam (map (named_signal names) ins) (map (named_signal names) outs ++ map f rest)

-- of those behind them
pub rest_known : (names read : List (List ℕ)) (front ins outs : List (Option SignalNo)) (k : ℕ) → length ins ≡ k → Know read front (map (named_signal names) (ins ++ outs))
    → Know read (drop k front) (map (named_signal names) outs)
rest_known names read front ins outs k e know later =
    let f = named_signal (read ++ later) in
    let g = named_signal names in
    sym (drop-map f k front) ∙ ap (drop k) (know later ∙ map-append g ins outs) ∙ ap (λ n. drop n (map g ins ++ map g outs)) (sym e ∙ sym (length-map ins g)) ∙ drop-append_seam (map g ins) (map g outs)

-- of the next m behind them
next_known : (names read : List (List ℕ)) (front rest ins outs : List (Option SignalNo)) (k m : ℕ) → length ins ≡ k → length outs ≡ m → Know read front (map (named_signal names) (ins ++ outs))
    → Know read (take m (drop k (front ++ rest))) (map (named_signal names) outs)
next_known names read front rest ins outs k m e o know later =
    let f = named_signal (read ++ later) in
    let g = named_signal names in
    sym (take-map f m (drop k (front ++ rest))) ∙ ap (take m) (sym (drop-map f k (front ++ rest))) ∙ ap (λ xs. take m (drop k xs)) (map-append f front rest)
    ∙ ap (λ xs. take m (drop k (xs ++ map f rest))) (know later ∙ map-append g ins outs)
    ∙ ap (λ xs. take m (drop k xs)) (append_assoc (map g ins) (map g outs) (map f rest))
    ∙ ap (λ n. take m (drop n (map g ins ++ (map g outs ++ map f rest)))) (sym e ∙ sym (length-map ins g))
    ∙ ap (take m) (drop-append_seam (map g ins) (map g outs ++ map f rest))
    ∙ ap (λ n. take n (map g outs ++ map f rest)) (sym o ∙ sym (length-map outs g))
    ∙ take-append_seam (map g outs) (map f rest)

pub gate_read : (names : List (List ℕ)) (r : NetReading) (word : List ℕ) (kind : CellKind) (formals : List (List ℕ)) (ins outs : List (Option SignalNo)) (k : ℕ)
    → gate_kind_of word ≡ Some (plain_gate kind) → ArePlaced kind 0 formals → length ins ≡ ins_count kind → length outs ≡ outs_count kind → ins_count kind + outs_count kind ≡ length formals → length formals ≤ 10
    → AreActuals names kind 0 (ins ++ outs)
    → (m : NetlistData) × (cell : Cell) × (line_says no_rams (numbered_line k (codes ".gate", word ∷ connections names formals (ins ++ outs))) r ≡ Ok (with_last m r.last (Gate cell) false))
    × IsGateRead names r kind ins outs m cell
gate_read names r word kind formals ins outs k is placed in_long out_long long few are =
    let all_long : length (ins ++ outs) ≡ length formals = length-append ins outs ∙ omega (arith, in_long, out_long, long) in
    let read = signals_read names k kind r.netlist no_wiring [] (ins ++ outs) 0 76 formals placed all_long refl (omega (arith, all_long, few)) are (none_wired names r.netlist.names) in
    let c : NetlistData × Connections = read.0 in
    let are_read : AreRead names r.netlist (ins ++ outs) read.1 c = read.3 in
    let wiring : IsWired names c.0.names c.1 (ins ++ outs) read.1 = are_read.wired in
    let ws : List (List ℕ) = connections names formals (ins ++ outs) in
    let cell : Cell = cell_of k (plain_gate kind) c.1 in (
      c.0,
      cell,
      ap (λ (o : Option GateForm). gate_of_kind k r word ws o >>= no_rams k) is
          ∙ ap (λ (x : Result (NetlistData × Connections) BlifFault). (x >>= (λ d. Ok (with_last d.0 r.last (Gate (cell_of k (plain_gate kind) d.1)) false))) >>= no_rams k) read.2,
      record {
        grew = record { grows = are_read.grows; ports = are_read.ports; cells = are_read.cells };
        kind_is = refl;
        know_ins = subst (λ (ss : List (Option SignalNo)). Know c.0.names (take (ins_count kind) ss) (map (named_signal names) ins)) (sym wiring.signals)
            (first_known names c.0.names wiring.front (nones read.1) ins outs (ins_count kind) in_long wiring.know);
        know_outs = subst (λ (ss : List (Option SignalNo)). Know c.0.names (take (outs_count kind) (drop (ins_count kind) ss)) (map (named_signal names) outs)) (sym wiring.signals)
            (next_known names c.0.names wiring.front (nones read.1) ins outs (ins_count kind) (outs_count kind) in_long out_long wiring.know);
      },
    )

-- ---- parameters
-- a reader with a gate as its last cell
abbrev pub at_gate : NetlistData → Cell → NetReading
at_gate n cell = record { netlist = n; last = Gate cell; rows = false }

pub param_read : (n : NetlistData) (cell : Cell) (name value : List ℕ) (now : CellKind) (k : ℕ) → kind_says k cell.kind name (value ∷ []) ≡ Ok now
    → line_says no_rams (numbered_line k (param_line name value)) (at_gate n cell) ≡ Ok (at_gate n (with_kind cell now))
param_read n cell name value now k says =
    ap (λ (x : Result CellKind BlifFault). ((x >>= (λ kind. Ok (Gate (with_kind cell kind)))) >>= (λ (last : LastCell). Ok (record { netlist = n; last = last; rows = false }))) >>= no_rams k) says
