-- Clocks that take a free global network: a buffer is put behind each, and the flip-flops read the buffer's output. So do covers that
-- pass a clock on to what closes the netlist, as a block RAM does.
use Rattle.std.specs.Prelude.{ℕ, ◌+◌, ◌-◌, min, ◌==◌, ◌&&◌, Bool, true, false, nat_lt, codes, List, [], ◌∷◌, ◌++◌, length, map, take, Option, Some, None, if◌then◌else◌, slice_index_or}
use Rattle.std.specs.List.{filter, list_any, range_with_len}
use Rattle.ice_base.specs.declared.number.SignalNo.{SignalNo}
use Rattle.ice_net.specs.declared.cell.Cell.{Cell}
use Rattle.ice_net.specs.declared.kind.CellKind.{CellKind}
use Rattle.ice_net.specs.declared.kind.CellKind.TheVariants.{Lut, Cover, Carry, Flop, PadCell, Global}
use Rattle.ice_net.specs.NetlistData.{NetlistData}
use Rattle.ice_net.specs.Drivers.{is_signal, output_of}
use Rattle.ice_net.specs.Limits.{most_signals}
use Rattle.ice_check.specs.Tables.{times}
use Rattle.ice_net_additions.specs.AddedCells.{added_cell, added_cells}

-- ---- which clocks
-- the signal at the clock input of a flip-flop; other cells have none
abbrev pub clock_by : CellKind → List (Option SignalNo) → Option SignalNo
clock_by (Lut table) ins = None
clock_by (Cover table width) ins = None
clock_by Carry ins = None
clock_by (Flop falling enable reset) ins = slice_index_or ins 0 None
clock_by (PadCell pin_type pullup) ins = None
clock_by Global ins = None

abbrev pub clock_of : Cell → Option SignalNo
clock_of cell = clock_by cell.kind cell.ins

-- at least sixteen flip-flops have the signal as their clock
abbrev pub is_clock : NetlistData → ℕ → Bool
is_clock n s = nat_lt 15 (times s (map clock_of n.cells))

-- the output of the cell needs no buffer: it is a global network already, or that of a cover without inputs, which never changes
abbrev pub is_settled : CellKind → Bool
is_settled (Lut table) = false
is_settled (Cover table width) = width == 0
is_settled Carry = false
is_settled (Flop falling enable reset) = false
is_settled (PadCell pin_type pullup) = false
is_settled Global = true

-- the output of such a cell
abbrev pub settled_of : Cell → Option SignalNo
settled_of cell = if is_settled cell.kind then output_of cell else None

-- a clock that may take a global network: it is not the output of such a cell
abbrev pub is_promotable : NetlistData → ℕ → Bool
is_promotable n s = is_clock n s && times s (map settled_of n.cells) == 0

-- the clocks that are promoted: the first ones, at most as many as there are free global networks and room for new signals
abbrev pub promoted_clocks : NetlistData → ℕ → List ℕ
promoted_clocks n free = take (min free (most_signals - length n.names)) (filter (is_promotable n) (range_with_len 0 (length n.names)))

-- ---- what becomes of the netlist
-- the name of the signal behind a clock's buffer
abbrev pub buffered_name : List ℕ → List ℕ
buffered_name name = name ++ codes " gb"

-- what a reader of the signal reads where the clocks have buffers: the first of them drives the signal `next`, and so on
abbrev pub buffered : ℕ → List ℕ → ℕ → ℕ
buffered next [] s = s
buffered next (clock ∷ clocks) s = if clock == s then next else buffered (next + 1) clocks s

abbrev pub buffered_pin : ℕ → List ℕ → Option SignalNo → Option SignalNo
buffered_pin next clocks None = None
buffered_pin next clocks (Some signal) = Some (record { 0 = buffered next clocks signal.0 })

abbrev pub buffered_first : ℕ → List ℕ → List (Option SignalNo) → List (Option SignalNo)
buffered_first next clocks [] = []
buffered_first next clocks (pin ∷ pins) = buffered_pin next clocks pin ∷ pins

-- the clock input of a flip-flop reads the buffer; no other input does
abbrev pub buffered_ins : ℕ → List ℕ → CellKind → List (Option SignalNo) → List (Option SignalNo)
buffered_ins next clocks (Lut table) ins = ins
buffered_ins next clocks (Cover table width) ins = ins
buffered_ins next clocks Carry ins = ins
buffered_ins next clocks (Flop falling enable reset) ins = buffered_first next clocks ins
buffered_ins next clocks (PadCell pin_type pullup) ins = ins
buffered_ins next clocks Global ins = ins

abbrev pub buffered_cell : ℕ → List ℕ → Cell → Cell
buffered_cell next clocks cell = record cell { ins = buffered_ins next clocks cell.kind cell.ins }

-- what the buffer of a clock reads
abbrev pub reads_clock : ℕ → List (Option SignalNo)
reads_clock clock = Some (record { 0 = clock }) ∷ []

-- a global buffer
abbrev pub buffer : ℕ → ℕ → Cell
buffer clock out = added_cell Global out (reads_clock clock)

abbrev pub buffers : ℕ → List ℕ → List Cell
buffers next clocks = added_cells Global next (map reads_clock clocks)

-- the netlist with a buffer for each of these clocks
abbrev pub with_buffers : NetlistData → List ℕ → NetlistData
with_buffers n clocks = record {
  names = n.names ++ map (λ clock. buffered_name (slice_index_or n.names clock [])) clocks;
  ports = n.ports;
  cells = map (buffered_cell (length n.names) clocks) n.cells ++ buffers (length n.names) clocks;
}

-- ---- clocks that are read outside
-- the signal is one of these, which what closes the netlist has as its clocks
abbrev pub is_outer : List SignalNo → Option SignalNo → Bool
is_outer outer pin = list_any (λ (signal : SignalNo). is_signal signal.0 pin) outer

-- a cover passes its one input on to such a signal
abbrev pub passes_out : List SignalNo → ℕ → ℕ → List (Option SignalNo) → Bool
passes_out outer table width outs = is_outer outer (slice_index_or outs 0 None) && (width == 1) && (table == 2)

-- such a cover reads the buffer; no other cell does for it
abbrev pub passing_ins : ℕ → List ℕ → List SignalNo → CellKind → List (Option SignalNo) → List (Option SignalNo) → List (Option SignalNo)
passing_ins next clocks outer (Lut table) outs ins = ins
passing_ins next clocks outer (Cover table width) outs ins = if passes_out outer table width outs then buffered_first next clocks ins else ins
passing_ins next clocks outer Carry outs ins = ins
passing_ins next clocks outer (Flop falling enable reset) outs ins = ins
passing_ins next clocks outer (PadCell pin_type pullup) outs ins = ins
passing_ins next clocks outer Global outs ins = ins

abbrev pub passing_cell : ℕ → List ℕ → List SignalNo → Cell → Cell
passing_cell next clocks outer cell = record cell { ins = passing_ins next clocks outer cell.kind cell.outs cell.ins }

-- the netlist in which these covers read the buffers, of which the first drives the signal `next`
abbrev pub with_passing : ℕ → List ℕ → List SignalNo → NetlistData → NetlistData
with_passing next clocks outer n = record n { cells = map (passing_cell next clocks outer) n.cells }

-- The netlist in which clocks of many flip-flops take the free global networks, also for the outer clocks: the signals that what closes the
-- netlist has as its clocks, and which do not count among the flip-flops. Nothing else of it changes.
abbrev pub promoted : NetlistData → List SignalNo → ℕ → NetlistData
promoted n outer free = with_passing (length n.names) (promoted_clocks n free) outer (with_buffers n (promoted_clocks n free))
