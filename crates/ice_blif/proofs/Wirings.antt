-- The signals of cells, as they are connected.
use Rattle.std.proofs.Common.{◌≡◌, ℕ, ◌+◌, ◌≤◌, Bool, true, false, List, length, length-take, length-drop, take, drop, if◌then◌else◌, Option, All, slice_set, ◌∙◌, arith}
use Rattle.std.proofs.lemmas.List.Elements.{All-weaker, All-set, All-take, All-drop}
use Rattle.ice_base.specs.declared.number.SignalNo.{SignalNo}
use Rattle.ice_net.specs.declared.kind.Reset.{Reset}
use Rattle.ice_net.specs.declared.kind.Reset.TheVariants.{Nothing, SyncReset, AsyncReset, SyncSet, AsyncSet}
use Rattle.ice_net.specs.declared.kind.CellKind.{CellKind}
use Rattle.ice_net.specs.declared.kind.CellKind.TheVariants.{Lut, Cover, Carry, Flop, PadCell, Global}
use Rattle.ice_net.specs.Kinds.{enable_names, reset_names, ins_count, outs_count}
use Rattle.ice_net.specs.Formed.{IsBelow, IsPresent, IsFormedKind, IsGateKind}
use Rattle.ice_net.proofs.NetlistLaws.{below_more, present_more, formed_more}
use Rattle.ice_blif.specs.State.{LastCell, Nothing as nothing_last, Gate, Rows, own_cell, Memory}
use Rattle.ice_blif.specs.Reading.{Connections}
use Rattle.ice_blif.specs.declared.kind.GateKind.{GateKind}
use Rattle.ice_blif.specs.Gates.{gate_outs}
use Rattle.ice_blif.specs.Grammar.{cell_of}
use Rattle.ice_blif.specs.Cells.{IsReadCell, IsFormedLast}

pub all_below_more : (m n : ℕ) (signals : List (Option SignalNo)) → m ≤ n → All (IsBelow m) signals → All (IsBelow n) signals
all_below_more m n signals le h = All-weaker (IsBelow m) (IsBelow n) (below_more m n le) signals h

-- all signals are below the number of names after one more is connected
pub wired_below : (m n : ℕ) (signals : List (Option SignalNo)) (place : ℕ) (signal : Option SignalNo) → m ≤ n → All (IsBelow m) signals → IsBelow n signal
    → All (IsBelow n) (slice_set signals place signal)
wired_below m n signals place signal le h s = All-set (IsBelow n) signals place signal s (all_below_more m n signals le h)

-- ten places are enough for the ports of a kind
pub gate_fits : (kind : CellKind) → IsGateKind kind → ins_count kind + outs_count kind ≤ 10
gate_fits (Lut table) h = omega arith
gate_fits (Cover table width) h = absurd h
gate_fits Carry h = omega arith
gate_fits (Flop falling enable reset) h = omega (arith, enables enable, resets reset)
  where
    enables : (e : Bool) → length (enable_names e) ≤ 1
    enables true = omega arith
    enables false = omega arith

    resets : (r : Reset) → length (reset_names r) ≤ 1
    resets Nothing = omega arith
    resets SyncReset = omega arith
    resets AsyncReset = omega arith
    resets SyncSet = omega arith
    resets AsyncSet = omega arith
gate_fits (PadCell pin_type pullup) h = omega arith
gate_fits Global h = omega arith

gate_kind : (signals : ℕ) (kind : CellKind) (ins outs : List (Option SignalNo)) → IsGateKind kind → IsFormedKind signals kind ins outs
gate_kind signals (Lut table) ins outs h = tt
gate_kind signals (Cover table width) ins outs h = absurd h
gate_kind signals Carry ins outs h = tt
gate_kind signals (Flop falling enable reset) ins outs h = tt
gate_kind signals (PadCell pin_type pullup) ins outs h = h
gate_kind signals Global ins outs h = tt

-- a gate has the outputs of its cell, and one more at most
gate_outs_about : (gate : GateKind) → (outs_count gate.kind ≤ gate_outs gate) × (gate_outs gate ≤ outs_count gate.kind + 1)
gate_outs_about gate = by gate.feeds_global
  where
    by : (b : Bool) → let outs : ℕ = if b then outs_count gate.kind + 1 else outs_count gate.kind in (outs_count gate.kind ≤ outs) × (outs ≤ outs_count gate.kind + 1)
    by true = (omega arith, omega arith)
    by false = (omega arith, omega arith)

-- the places of connections are enough for the ports of a gate
pub gate_ports_fit : (gate : GateKind) → IsGateKind gate.kind → ins_count gate.kind + gate_outs gate ≤ 76
gate_ports_fit gate h = omega (arith, gate_fits gate.kind h, (gate_outs_about gate).1)

-- the cell of a gate with its connections is well formed
pub gate_formed : (signals line : ℕ) (gate : GateKind) (wiring : Connections) → IsGateKind gate.kind → length wiring.signals ≡ 76 → All (IsBelow signals) wiring.signals
    → IsReadCell signals (cell_of line gate wiring)
gate_formed signals line gate wiring h long below =
    let kind : CellKind = gate.kind in
    let fits = gate_ports_fit gate h in
    let more = (gate_outs_about gate).0 in
    let behind : List (Option SignalNo) = drop (ins_count kind) wiring.signals in
    let outs : List (Option SignalNo) = take (gate_outs gate) behind in
    let outs_below : All (IsBelow signals) outs = All-take (IsBelow signals) (gate_outs gate) behind (All-drop (IsBelow signals) (ins_count kind) wiring.signals below) in
    record {
      own = record {
        ins_long = length-take (ins_count kind) wiring.signals ∙ omega (arith, fits, long);
        outs_long = length-take (outs_count kind) outs ∙ omega (arith, fits, more, long, length-take (gate_outs gate) behind, length-drop (ins_count kind) wiring.signals);
        ins_below = All-take (IsBelow signals) (ins_count kind) wiring.signals below;
        outs_below = All-take (IsBelow signals) (outs_count kind) outs outs_below;
        kind = gate_kind signals kind (take (ins_count kind) wiring.signals) (take (outs_count kind) outs) h;
      };
      outs_below = outs_below;
    }

-- the cell made last stays well formed where there are more signals
pub last_formed_more : (m n : ℕ) (last : LastCell) → m ≤ n → IsFormedLast m last → IsFormedLast n last
last_formed_more m n nothing_last le h = tt
last_formed_more m n (Gate cell) le h = record { own = formed_more m n le (own_cell cell) h.own; outs_below = all_below_more m n cell.outs le h.outs_below }
last_formed_more m n Memory le h = tt
last_formed_more m n (Rows c) le h = record {
  narrow = h.narrow;
  single = h.single;
  ins_present = All-weaker (IsPresent m) (IsPresent n) (present_more m n le) c.ins h.ins_present;
  outs_present = All-weaker (IsPresent m) (IsPresent n) (present_more m n le) c.outs h.outs_present;
}
