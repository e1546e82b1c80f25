-- The signals in the lists of a netlist are its own.
use Rattle.std.proofs.Common.{[], ◌∷◌, ◌==◌, if◌then◌else◌, ℕ, ◌<◌, Bool, true, false, List, length, map, get_or, Option, None, All, inl, inr, sym, subst}
use Rattle.std.proofs.lemmas.List.{get_or_past}
use Rattle.std.proofs.lemmas.List.Elements.{All-map, All-weaker, All-append, All-nil, All-cons, All-head, All-tail}
use Rattle.std.proofs.lemmas.Bool.{cases_lt}
use Rattle.ice_base.specs.declared.number.SignalNo.{SignalNo}
use Rattle.ice_net.specs.declared.cell.Cell.{Cell}
use Rattle.ice_net.specs.declared.kind.CellKind.{CellKind}
use Rattle.ice_net.specs.declared.kind.CellKind.TheVariants.{Lut, Cover, Carry, Flop, PadCell, Global}
use Rattle.ice_net.specs.declared.port.Port.{Port}
use Rattle.ice_net.specs.declared.port.Way.{Way}
use Rattle.ice_net.specs.declared.port.Way.TheVariants.{Input, Output, Both}
use Rattle.std.specs.List.{flat_map}
use Rattle.ice_net.specs.Drives.{output_type, enabled_type}
use Rattle.ice_net.specs.Uses.{data_of, enable_of, pad_uses, uses_by}
use Rattle.ice_check.specs.Faults.{uses_of, shown_by, shown_of}
use Rattle.ice_net.specs.NetlistData.{NetlistData}
use Rattle.ice_net.specs.Formed.{IsBelow, IsPortBelow, IsFormedCell, IsFormed}
use Rattle.ice_net.specs.Drivers.{pin_by, pin_of, pad_by, pad_of, has_buffer, output_of, pad_signals, outputs}

pub at_below : (n : ℕ) (ins : List (Option SignalNo)) (k : ℕ) → All (IsBelow n) ins → IsBelow n (get_or ins k None)
at_below n ins k all =
    elim (cases_lt k (length ins)) [
      | inl lt ↦ all k None lt
      | inr le ↦ subst (IsBelow n) (sym (get_or_past ins k None le)) tt
    ]

-- ---- PACKAGE_PINs
by_below : (n : ℕ) (kind : CellKind) (ins : List (Option SignalNo)) → All (IsBelow n) ins → IsBelow n (pin_by kind ins)
by_below n (Lut table) ins all = tt
by_below n (Cover table width) ins all = tt
by_below n Carry ins all = tt
by_below n (Flop falling enable reset) ins all = tt
by_below n (PadCell pin_type pullup) ins all = at_below n ins 0 all
by_below n Global ins all = tt

pub pins_below : (n : NetlistData) → IsFormed n → All (IsBelow (length n.names)) (map pin_of n.cells)
pins_below n f =
    All-map (IsBelow (length n.names)) pin_of n.cells
    (All-weaker (IsFormedCell (length n.names)) (λ (cell : Cell). IsBelow (length n.names) (pin_of cell))
    (λ (cell : Cell) formed. by_below (length n.names) cell.kind cell.ins formed.ins_below) n.cells f.cells)

-- ---- pads
pad_below : (n : ℕ) (port : Port) (buffered : Bool) (way : Way) → port.signal.0 < n → IsBelow n (pad_by port buffered way)
pad_below n port buffered Input lt = lt
pad_below n port buffered Both lt = lt
pad_below n port true Output lt = lt
pad_below n port false Output lt = tt

pub pads_below : (n : NetlistData) → IsFormed n → All (IsBelow (length n.names)) (pad_signals n)
pads_below n f =
    All-map (IsBelow (length n.names)) (pad_of n.cells) n.ports
    (All-weaker (IsPortBelow (length n.names)) (λ (port : Port). IsBelow (length n.names) (pad_of n.cells port))
    (λ (port : Port) lt. pad_below (length n.names) port (has_buffer n.cells port.signal.0) port.way lt) n.ports f.ports)

-- ---- outputs
pub outputs_below : (n : NetlistData) → IsFormed n → All (IsBelow (length n.names)) (outputs n)
outputs_below n f =
    All-map (IsBelow (length n.names)) output_of n.cells
    (All-weaker (IsFormedCell (length n.names)) (λ (cell : Cell). IsBelow (length n.names) (output_of cell))
    (λ (cell : Cell) formed. at_below (length n.names) cell.outs 0 formed.outs_below) n.cells f.cells)

-- ---- inputs in use
pad_uses_below : (n pin_type : ℕ) (ins : List (Option SignalNo)) → All (IsBelow n) ins → All (IsBelow n) (pad_uses pin_type ins)
pad_uses_below n pin_type ins all = by (pin_type == output_type) (pin_type == enabled_type)
  where
    one : All (IsBelow n) (get_or ins 1 None ∷ [])
    one = All-cons (IsBelow n) (get_or ins 1 None) [] (at_below n ins 1 all) (All-nil (IsBelow n))

    two : All (IsBelow n) (get_or ins 1 None ∷ get_or ins 2 None ∷ [])
    two = All-cons (IsBelow n) (get_or ins 1 None) (get_or ins 2 None ∷ []) (at_below n ins 1 all) (All-cons (IsBelow n) (get_or ins 2 None) [] (at_below n ins 2 all) (All-nil (IsBelow n)))

    by : (output enabled : Bool)
        → All (IsBelow n) (if output then data_of ins ∷ [] else (if enabled then data_of ins ∷ enable_of ins ∷ [] else []))
    by true enabled = one
    by false true = two
    by false false = All-nil (IsBelow n)

kind_uses_below : (n : ℕ) (kind : CellKind) (ins : List (Option SignalNo)) → All (IsBelow n) ins → All (IsBelow n) (uses_by kind ins)
kind_uses_below n (Lut table) ins all = all
kind_uses_below n (Cover table width) ins all = all
kind_uses_below n Carry ins all = all
kind_uses_below n (Flop falling enable reset) ins all = all
kind_uses_below n (PadCell pin_type pullup) ins all = pad_uses_below n pin_type ins all
kind_uses_below n Global ins all = all

all_uses_below : (n : ℕ) (cells : List Cell) → All (IsFormedCell n) cells → All (IsBelow n) (flat_map uses_of cells)
all_uses_below n [] formed = All-nil (IsBelow n)
all_uses_below n (cell ∷ cells) formed =
    All-append (IsBelow n) (uses_of cell) (flat_map uses_of cells)
    (kind_uses_below n cell.kind cell.ins (All-head (IsFormedCell n) cell cells formed).ins_below)
    (all_uses_below n cells (All-tail (IsFormedCell n) cell cells formed))

pub uses_below : (n : NetlistData) → IsFormed n → All (IsBelow (length n.names)) (flat_map uses_of n.cells)
uses_below n f = all_uses_below (length n.names) n.cells f.cells

-- ---- ports that show their signal
show_below : (n : ℕ) (port : Port) (buffered : Bool) (way : Way) → port.signal.0 < n → IsBelow n (shown_by port buffered way)
show_below n port buffered Input lt = tt
show_below n port buffered Both lt = tt
show_below n port true Output lt = tt
show_below n port false Output lt = lt

pub shown_below : (n : NetlistData) → IsFormed n → All (IsBelow (length n.names)) (map (shown_of n.cells) n.ports)
shown_below n f =
    All-map (IsBelow (length n.names)) (shown_of n.cells) n.ports
    (All-weaker (IsPortBelow (length n.names)) (λ (port : Port). IsBelow (length n.names) (shown_of n.cells port))
    (λ (port : Port) lt. show_below (length n.names) port (has_buffer n.cells port.signal.0) port.way lt) n.ports f.ports)
