-- What a netlist text without RAMs says, for one who reads it and has no use for its faults.
use Rattle.std.specs.Prelude.{ℕ, ◌+◌, ◌-◌, ◌==◌, Bool, false, ◌||◌, List, [], ◌∷◌, ◌++◌, length, take, drop, fold, replicate, position, nat_le, slice_set, Option, Some, None, option_map, if◌then◌else◌, codes, bytes_eq}
use Rattle.std.specs.Option.{option_and_then}
use Rattle.ice_base.specs.Lists.{with_name}
use Rattle.ice_base.specs.Text.{lines, numbered, words, begins_with, uncommented}
use Rattle.ice_base.specs.declared.number.SignalNo.{SignalNo}
use Rattle.ice_net.specs.declared.kind.CellKind.{CellKind}
use Rattle.ice_net.specs.declared.kind.CellKind.TheVariants.{Lut, PadCell}
use Rattle.ice_net.specs.declared.port.Way.{Way}
use Rattle.ice_net.specs.declared.port.Way.TheVariants.{Input, Output}
use Rattle.ice_net.specs.Kinds.{ins_count}
use Rattle.ice_net.specs.NetlistData.{NetlistData, empty_netlist, with_port}
use Rattle.ice_blif.specs.GateForms.{GateForm}
use Rattle.ice_blif.specs.Gates.{gate_kind_of, gate_place, gate_outs, with_param_digit}
use Rattle.ice_blif.specs.State.{OpenCover, LastCell, Nothing, Gate, Rows, named, signal_of, with_cover_row, with_kind, finished}
use Rattle.ice_blif.specs.Continued.{continued}
use Rattle.ice_blif.specs.Covers.{level_of_word}
use Rattle.ice_blif.specs.Registers.{taken_apart}

-- ---- lines
-- a line before joined ones: where it goes on, and this is in front of its backslash, it has the words of the next one too
abbrev pub join : ℕ → List ℕ → Option (List ℕ) → List (ℕ × List (List ℕ)) → List (ℕ × List (List ℕ))
join number line None later = (number, uncommented (words line)) ∷ later
join number line (Some front) [] = (number, words front) ∷ []
join number line (Some front) (next ∷ later) = (number, words front ++ next.1) ∷ later

-- the joined lines of numbered lines: each has the number of its first line, and its words before the comment
abbrev pub joined_lines : List (ℕ × List ℕ) → List (ℕ × List (List ℕ))
joined_lines [] = []
joined_lines (line ∷ others) = join line.0 line.1 (continued line.1) (joined_lines others)

-- the netlist without the cell that was made last, and that cell
abbrev pub NetSoFar : Type 0
NetSoFar = NetlistData × LastCell

-- ---- ports
abbrev pub port_joins : Way → NetlistData → List ℕ → NetlistData
port_joins way n name = record { names = with_name n.names name; ports = with_port n.ports (signal_of n name) way; cells = n.cells }

-- ---- gates
-- a netlist, and signals: those at the places of a gate's ports, or those of a cover
abbrev pub Wiring : Type 0
Wiring = NetlistData × List (Option SignalNo)

-- An actual is connected to the port at a place. It makes no appearance where it is empty, or `$undef` at an output.
abbrev pub actual_joins : Bool → List ℕ → Wiring → ℕ → Wiring
actual_joins output actual c place =
    if bytes_eq actual (codes "") || (if output then bytes_eq actual (codes "$undef") else false) then (c.0, slice_set c.1 place None)
    else (named c.0 actual, slice_set c.1 place (Some (signal_of c.0 actual)))

-- FORMAL=ACTUAL: the formal ends at the first `=`, which is 61; the places behind those of so many inputs are the outputs'
abbrev pub connection_joins : ℕ → (List ℕ → Option ℕ) → List ℕ → Wiring → Option Wiring
connection_joins inputs place_of word c =
    option_and_then (λ at. option_map (λ place. actual_joins (nat_le inputs place) (drop (at + 1) word) c place) (place_of (take at word)))
    (position (λ b. b == 61) word)

abbrev pub connections_join : ℕ → (List ℕ → Option ℕ) → List (List ℕ) → Wiring → Option Wiring
connections_join inputs place_of [] c = Some c
connections_join inputs place_of (word ∷ more) c = option_and_then (connections_join inputs place_of more) (connection_joins inputs place_of word c)

abbrev pub gate_joins : ℕ → GateForm → LastCell → Wiring → NetSoFar
gate_joins line gate last c = (
  finished c.0 last,
  Gate (record {
    kind = gate.kind;
    line = line;
    ins = take (ins_count gate.kind) c.1;
    outs = take (gate_outs gate) (drop (ins_count gate.kind) c.1);
  }),
)

-- `.gate KIND FORMAL=ACTUAL ..`; no gate has more than 76 ports
abbrev pub gate_directive : ℕ → List (List ℕ) → NetSoFar → Option NetSoFar
gate_directive line [] r = None
gate_directive line (kind ∷ connections) r =
    option_and_then (λ gate. option_map (gate_joins line gate r.1)
    (connections_join (ins_count gate.kind) (gate_place gate) connections (r.0, replicate 76 None))) (gate_kind_of kind)

-- ---- covers
abbrev pub signal_joins : Wiring → List ℕ → Wiring
signal_joins c name = (named c.0 name, c.1 ++ Some (signal_of c.0 name) ∷ [])

-- the cover of these signals, of which the last is its output, before its rows
abbrev pub cover_joins : ℕ → LastCell → Wiring → NetSoFar
cover_joins line last c =
    (finished c.0 last, Rows (record { line = line; ins = take (length c.1 - 1) c.1; outs = drop (length c.1 - 1) c.1; covered = 0; level = None }))

-- a row is a digit for each input, and a level
abbrev pub cover_row : OpenCover → List (List ℕ) → Option OpenCover
cover_row c (level ∷ []) = option_map (with_cover_row c []) (level_of_word level)
cover_row c (digits ∷ level ∷ []) = option_map (with_cover_row c digits) (level_of_word level)
cover_row c others = None

abbrev pub row_joins_cover : LastCell → List (List ℕ) → NetlistData → Option NetSoFar
row_joins_cover (Rows cover) row n = option_map (λ more. (n, Rows more)) (cover_row cover row)
row_joins_cover last row n = None

-- ---- parameters
-- the kind with a parameter of this value; other parameters of a look-up table and of an SB_IO, and those of other kinds, are read over
abbrev pub kind_with : CellKind → List ℕ → ℕ → CellKind
kind_with (Lut table) name value = if bytes_eq name (codes "LUT_INIT") then Lut value else Lut table
kind_with (PadCell pin_type pullup) name value =
    if bytes_eq name (codes "PIN_TYPE") then PadCell value pullup
    else (if bytes_eq name (codes "PULLUP") then PadCell pin_type (value == 1) else PadCell pin_type pullup)
kind_with kind name value = kind

-- `.param NAME VALUE`, where the value is written in binary digits
abbrev pub param_joins : LastCell → List (List ℕ) → LastCell
param_joins (Gate cell) (name ∷ value ∷ []) = Gate (with_kind cell (kind_with cell.kind name (fold with_param_digit 0 value)))
param_joins last words = last

-- ---- the text
abbrev pub directive_joins : ℕ → List ℕ → List (List ℕ) → NetSoFar → Option NetSoFar
directive_joins line first others r =
    if bytes_eq first (codes ".gate") || bytes_eq first (codes ".subckt") then gate_directive line others r
    else (if bytes_eq first (codes ".names") then Some (cover_joins line r.1 (fold signal_joins (r.0, []) others))
    else (if bytes_eq first (codes ".param") then Some (r.0, param_joins r.1 others)
    else (if bytes_eq first (codes ".attr") || bytes_eq first (codes ".cname") then Some r
    else (if bytes_eq first (codes ".inputs") then Some (fold (port_joins Input) r.0 others, r.1)
    else (if bytes_eq first (codes ".outputs") then Some (fold (port_joins Output) r.0 others, r.1)
    else None)))))

-- a directive begins with a dot, 46, and any other line is a row of the cover that was made last
abbrev pub blif_line_joins : ℕ → List ℕ → List (List ℕ) → NetSoFar → Option NetSoFar
blif_line_joins line first others r =
    if begins_with 46 first then directive_joins line first others r else row_joins_cover r.1 (first ∷ others) r.0

-- what the lines behind `.model` say, up to `.end`: each joins what those before it say
abbrev pub model_lines : {S : Type 0} → (ℕ → List ℕ → List (List ℕ) → S → Option S) → List (ℕ × List (List ℕ)) → S → Option S
model_lines joins [] r = None
model_lines joins ((line, []) ∷ more) r = model_lines joins more r
model_lines joins ((line, first ∷ others) ∷ more) r =
    if bytes_eq first (codes ".end") then Some r else option_and_then (model_lines joins more) (joins line first others r)

abbrev pub blif_lines_join : {S : Type 0} → (ℕ → List ℕ → List (List ℕ) → S → Option S) → S → List (ℕ × List (List ℕ)) → Option S
blif_lines_join joins r [] = None
blif_lines_join joins r ((line, []) ∷ more) = blif_lines_join joins r more
blif_lines_join joins r ((line, first ∷ others) ∷ more) = if bytes_eq first (codes ".model") then model_lines joins more r else None

-- the netlist with its last cell, where pads are taken apart that have registers or feed globals
abbrev pub whole : NetSoFar → NetlistData
whole r = taken_apart (finished r.0 r.1)

-- the netlist that a text says
abbrev pub netlist_in : List ℕ → Option NetlistData
netlist_in text = option_map whole (blif_lines_join blif_line_joins (empty_netlist, Nothing) (joined_lines (numbered 1 (lines text))))
