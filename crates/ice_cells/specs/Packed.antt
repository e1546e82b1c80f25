-- The design of a netlist before its runs are made.
use Rattle.std.specs.Prelude.{ℕ, nat_lt, ◌+◌, ◌||◌, not, Bool, true, false, List, [], ◌∷◌, ◌++◌, map, flat_map, length, Option, None, Some, if◌then◌else◌, slice_get, slice_index_or, is_some}
use Rattle.std.specs.List.{list_any}
use Rattle.std.specs.Option.{option_map_or}
use Rattle.ice_base.specs.declared.number.SignalNo.{SignalNo}
use Rattle.ice_net.specs.declared.cell.Cell.{Cell}
use Rattle.ice_net.specs.declared.kind.CellKind.{CellKind}
use Rattle.ice_net.specs.declared.kind.CellKind.TheVariants.{Lut, Cover, Carry, Flop, PadCell, Global}
use Rattle.ice_net.specs.declared.kind.Reset.{Reset}
use Rattle.ice_net.specs.declared.port.Port.{Port}
use Rattle.ice_net.specs.declared.port.Way.{Way}
use Rattle.ice_net.specs.declared.port.Way.TheVariants.{Input, Output, Both}
use Rattle.ice_net.specs.NetlistData.{NetlistData}
use Rattle.ice_net.specs.Drivers.{buffer_at}
use Rattle.ice_net.specs.Drives.{output_type}
use Rattle.ice_net.specs.Uses.{input_type, pad_uses}
use Rattle.ice_lut.specs.Tables.{folded, rewired}
use Rattle.ice_cells.specs.declared.cell.Control.{Control}
use Rattle.ice_cells.specs.declared.cell.LogicCell.{LogicCell}
use Rattle.ice_cells.specs.declared.design.Design.{Design}
use Rattle.ice_cells.specs.declared.design.DesignPad.{DesignPad}
use Rattle.ice_cells.specs.declared.origin.Origin.{Origin}
use Rattle.ice_cells.specs.declared.origin.Origin.TheVariants.{Fixed, Pad, Made}
use Rattle.ice_cells.specs.declared.root.CarryIn.{CarryIn}
use Rattle.ice_cells.specs.declared.root.CarryIn.TheVariants as carry_in
use Rattle.ice_cells.specs.declared.root.Root.{Root}
use Rattle.ice_cells.specs.declared.root.Root.TheVariants.{PadIn, CellOut, GlobalOut, CarryOut}
use Rattle.ice_cells.specs.declared.share.Part.{Part}
use Rattle.ice_cells.specs.declared.share.Part.TheVariants as part
use Rattle.ice_cells.specs.Origins.{is_table_kind, input_origin, input_level, origins}
use Rattle.ice_cells.specs.Readings.{is_read}
use Rattle.ice_cells.specs.Uses.{dropped, bare_outputs}
use Rattle.ice_cells.specs.Homes as homes_of
use Rattle.ice_cells.specs.Homes.{Facts, facts_of, carriers_of, openers, homes, anchor}

-- what the cells, pads and buffers of the design are made by
pub record PackPlan : Type 0 where
  -- the origin of each signal
  pub origins : List Origin
  -- what is known of the netlist's cells
  pub facts : Facts
  -- the carry that shares each look-up table
  pub carriers : List (Option ℕ)
  -- the root of the output of each of the netlist's cells; constants and aliases have none
  pub roots : List (Option Root)
  -- the numbers of the cell of constant 0 and of that of constant 1, where they are made
  pub zero : ℕ
  pub one : ℕ

-- ---- roots
-- D_IN_0 of an SB_IO has the root of the pad at its pin
abbrev pub pad_root : Origin → Option Root
pad_root (Fixed level) = None
pad_root (Pad k) = Some (PadIn k)
pad_root (Made j) = None

-- the root of the output of a cell that goes to the logic cell of number c, where g global buffers stand before it
abbrev pub root_by : List Origin → ℕ → ℕ → CellKind → List (Option SignalNo) → List (Option SignalNo) → Option Root
root_by os c g (Lut t) ins outs = Some (CellOut c)
root_by os c g (Cover t width) ins outs = if is_table_kind (Cover t width) then Some (CellOut c) else None
root_by os c g Carry ins outs = if dropped outs then None else Some (CarryOut c)
root_by os c g (Flop falling enable reset) ins outs = Some (CellOut c)
root_by os c g (PadCell pin_type pullup) ins outs = pad_root (input_origin os (slice_index_or ins 0 None))
root_by os c g Global ins outs = Some (GlobalOut g)

abbrev pub one_if : Bool → ℕ
one_if b = if b then 1 else 0

abbrev pub is_global : CellKind → Bool
is_global (Lut t) = false
is_global (Cover t width) = false
is_global Carry = false
is_global (Flop falling enable reset) = false
is_global (PadCell pin_type pullup) = false
is_global Global = true

-- the roots of cells, the first of which has number j, with g global buffers before it
abbrev pub roots_from : List Origin → List ℕ → ℕ → ℕ → List Cell → List (Option Root)
roots_from os hs j g [] = []
roots_from os hs j g (cell ∷ cells) =
    root_by os (slice_index_or hs j 0) g cell.kind cell.ins cell.outs ∷ roots_from os hs (j + 1) (g + one_if (is_global cell.kind)) cells

-- ---- what sinks read
-- the root of an origin; a constant has none
abbrev pub origin_root : List (Option Root) → Origin → Option Root
origin_root roots (Fixed level) = None
origin_root roots (Pad k) = Some (PadIn k)
origin_root roots (Made j) = slice_index_or roots j None

-- a constant at a sink that reads `bare` where nothing drives it: only the other level needs the cell that has it
abbrev pub constant_root : Bool → ℕ → Bool → Option Root
constant_root bare cell level = if bare then (if level then None else Some (CellOut cell)) else (if level then Some (CellOut cell) else None)

abbrev pub sink_root : Bool → ℕ → List (Option Root) → Origin → Option Root
sink_root bare cell roots (Fixed level) = constant_root bare cell level
sink_root bare cell roots (Pad k) = Some (PadIn k)
sink_root bare cell roots (Made j) = slice_index_or roots j None

-- a sink that reads 0 where nothing drives it
abbrev pub sink : PackPlan → Option SignalNo → Option Root
sink p input = sink_root false p.one p.roots (input_origin p.origins input)

-- an enable, which reads 1 where nothing drives it; a missing one is left so
abbrev pub enable_sink : PackPlan → Option SignalNo → Option Root
enable_sink p None = None
enable_sink p (Some signal) = sink_root true p.zero p.roots (input_origin p.origins (Some signal))

-- an input of a table, a clock, or what a flip-flop takes: it needs no cell of a constant
abbrev pub plain_sink : PackPlan → Option SignalNo → Option Root
plain_sink p input = origin_root p.roots (input_origin p.origins input)

-- ---- flip-flops
-- the inputs at the enable and at the set or reset, which stand behind clock and data
abbrev pub enable_input : Bool → List (Option SignalNo) → Option SignalNo
enable_input true ins = slice_index_or ins 2 None
enable_input false ins = None

abbrev pub set_input : Bool → List (Option SignalNo) → Option SignalNo
set_input true ins = slice_index_or ins 3 None
set_input false ins = slice_index_or ins 2 None

abbrev pub flop_by : PackPlan → CellKind → List (Option SignalNo) → Option (Control × Reset)
flop_by p (Lut t) ins = None
flop_by p (Cover t width) ins = None
flop_by p Carry ins = None
flop_by p (Flop falling enable reset) ins = Some (
  record {
    clock = plain_sink p (slice_index_or ins 0 None);
    falling = falling;
    enable = enable_sink p (enable_input enable ins);
    reset = sink p (set_input enable ins);
  },
  reset,
)
flop_by p (PadCell pin_type pullup) ins = None
flop_by p Global ins = None

abbrev pub flop_of : PackPlan → List Cell → Option ℕ → Option (Control × Reset)
flop_of p cells None = None
flop_of p cells (Some f) = option_map_or (λ (cell : Cell). flop_by p cell.kind cell.ins) (slice_get cells f) None

-- ---- cells
abbrev pub ins_at : List Cell → ℕ → List (Option SignalNo)
ins_at cells j = option_map_or (λ (cell : Cell). cell.ins) (slice_get cells j) []

abbrev pub first_input : ℕ → ℕ → Option ℕ
first_input k width = if nat_lt k width then Some k else None

-- of four inputs, those that a cover of a width has
abbrev pub first_inputs : ℕ → List (Option ℕ)
first_inputs width = first_input 0 width ∷ first_input 1 width ∷ first_input 2 width ∷ first_input 3 width ∷ []

-- the table of a cell; that of a cover ignores the inputs that it lacks
abbrev pub table_by : CellKind → ℕ
table_by (Lut t) = t
table_by (Cover t width) = rewired t (first_inputs width)
table_by Carry = 0
table_by (Flop falling enable reset) = 0
table_by (PadCell pin_type pullup) = 0
table_by Global = 0

abbrev pub table_at : List Cell → ℕ → ℕ
table_at cells j = option_map_or (λ (cell : Cell). table_by cell.kind) (slice_get cells j) 0

-- of four inputs, those that may be missing
abbrev pub four : {U : Type 0} → (Option SignalNo → U) → List (Option SignalNo) → List U
four f ins = f (slice_index_or ins 0 None) ∷ f (slice_index_or ins 1 None) ∷ f (slice_index_or ins 2 None) ∷ f (slice_index_or ins 3 None) ∷ []

abbrev pub no_inputs : List (Option Root)
no_inputs = None ∷ None ∷ None ∷ None ∷ []

-- a look-up table has its constant inputs in its table
abbrev pub lut_table : PackPlan → List Cell → ℕ → ℕ
lut_table p cells j = folded (table_at cells j) 0 (four (input_level p.origins) (ins_at cells j))

abbrev pub lut_inputs : PackPlan → List Cell → ℕ → List (Option Root)
lut_inputs p cells j = four (plain_sink p) (ins_at cells j)

-- a flip-flop with a cell of its own has a table that passes what it takes from the first input, or is its constant
abbrev pub passing_table : Origin → ℕ
passing_table (Fixed level) = if level then 65535 else 0
passing_table (Pad k) = 43690
passing_table (Made j) = 43690

abbrev pub data_input : List Cell → ℕ → Option SignalNo
data_input cells f = slice_index_or (ins_at cells f) 1 None

-- the table and the inputs by the part of the anchor
abbrev pub table_for : PackPlan → List Cell → ℕ → Part → ℕ
table_for p cells a part.Table = lut_table p cells a
table_for p cells a (part.Flop taken) = passing_table (input_origin p.origins (data_input cells a))
table_for p cells a part.Carry = 0
table_for p cells a part.Nothing = 0

abbrev pub inputs_for : PackPlan → List Cell → ℕ → Part → List (Option Root)
inputs_for p cells a part.Table = lut_inputs p cells a
inputs_for p cells a (part.Flop taken) = plain_sink p (data_input cells a) ∷ None ∷ None ∷ None ∷ []
inputs_for p cells a part.Carry = no_inputs
inputs_for p cells a part.Nothing = no_inputs

-- the flip-flop and the carry of a logic cell
abbrev pub flop_for : PackPlan → ℕ → Part → Option ℕ
flop_for p a part.Table = homes_of.taker p.facts a
flop_for p a (part.Flop taken) = Some a
flop_for p a part.Carry = None
flop_for p a part.Nothing = None

abbrev pub carry_for : PackPlan → ℕ → Part → Option ℕ
carry_for p a part.Table = slice_index_or p.carriers a None
carry_for p a (part.Flop taken) = None
carry_for p a part.Carry = Some a
carry_for p a part.Nothing = None

-- the inputs where a carry has its own two among them
abbrev pub with_carry : PackPlan → List Cell → List (Option Root) → Option ℕ → List (Option Root)
with_carry p cells inputs None = inputs
with_carry p cells inputs (Some c) =
    slice_index_or inputs 0 None ∷ sink p (slice_index_or (ins_at cells c) 0 None) ∷ sink p (slice_index_or (ins_at cells c) 1 None) ∷ slice_index_or inputs 3 None ∷ []

-- the logic cell of those that go by an anchor
abbrev pub cell_by : PackPlan → List Cell → ℕ → Part → LogicCell
cell_by p cells a kind = record {
  table = table_for p cells a kind;
  ins = with_carry p cells (inputs_for p cells a kind) (carry_for p a kind);
  carry = is_some (carry_for p a kind);
  carry_to_in3 = false;
  flop = flop_of p cells (flop_for p a kind);
}

abbrev pub cell_of : PackPlan → List Cell → ℕ → LogicCell
cell_of p cells j = cell_by p cells (anchor p.facts j) (homes_of.part p.facts (anchor p.facts j))

-- ---- constants that must be driven
abbrev pub constant_cell : Bool → LogicCell
constant_cell level = record { table = if level then 65535 else 0; ins = no_inputs; carry = false; carry_to_in3 = false; flop = None }

abbrev pub is_level : Bool → Option Bool → Bool
is_level level None = false
is_level level (Some constant) = if level then constant else not constant

abbrev pub has_level : List Origin → Bool → Option SignalNo → Bool
has_level os level input = is_level level (input_level os input)

-- an enable of constant 0
abbrev pub reads_zero : List Origin → CellKind → List (Option SignalNo) → Bool
reads_zero os (Lut t) ins = false
reads_zero os (Cover t width) ins = false
reads_zero os Carry ins = false
reads_zero os (Flop falling enable reset) ins = has_level os false (enable_input enable ins)
reads_zero os (PadCell pin_type pullup) ins = false
reads_zero os Global ins = false

-- constant 1 at an input of a carry that is not dropped, at a set or reset, at what a pad is driven or enabled with, and at a global buffer
abbrev pub reads_one : List Origin → CellKind → List (Option SignalNo) → List (Option SignalNo) → Bool
reads_one os (Lut t) ins outs = false
reads_one os (Cover t width) ins outs = false
reads_one os Carry ins outs = if dropped outs then false else has_level os true (slice_index_or ins 0 None) || has_level os true (slice_index_or ins 1 None)
reads_one os (Flop falling enable reset) ins outs = has_level os true (set_input enable ins)
reads_one os (PadCell pin_type pullup) ins outs = list_any (has_level os true) (pad_uses pin_type ins)
reads_one os Global ins outs = has_level os true (slice_index_or ins 0 None)

abbrev pub zero_by : List Origin → Cell → Bool
zero_by os cell = reads_zero os cell.kind cell.ins

abbrev pub one_by : List Origin → Cell → Bool
one_by os cell = reads_one os cell.kind cell.ins cell.outs

abbrev pub port_one : List Origin → Port → Bool
port_one os port = has_level os true (Some port.signal)

abbrev pub needs_zero : List Origin → List Cell → Bool
needs_zero os cells = list_any (zero_by os) cells

abbrev pub needs_one : List Origin → List Cell → List Port → Bool
needs_one os cells bare = list_any (one_by os) cells || list_any (port_one os) bare

abbrev pub constant_if : Bool → Bool → List LogicCell
constant_if needed level = if needed then constant_cell level ∷ [] else []

-- ---- pads and global buffers
abbrev pub bare_drive : PackPlan → Way → SignalNo → Option Root
bare_drive p Input signal = None
bare_drive p Output signal = sink p (Some signal)
bare_drive p Both signal = None

abbrev pub bare_type : Way → ℕ
bare_type Input = input_type
bare_type Output = output_type
bare_type Both = input_type

-- the pad of a port without an SB_IO
abbrev pub bare_pad : PackPlan → ℕ → Port → DesignPad
bare_pad p k port = record { port = k; pin_type = bare_type port.way; pullup = false; drive = bare_drive p port.way port.signal; enable = None; reads = false }

-- the pad of a port at an SB_IO, by the kind of that
abbrev pub buffered_pad : PackPlan → ℕ → Port → List (Option SignalNo) → CellKind → DesignPad
buffered_pad p k port ins (Lut t) = bare_pad p k port
buffered_pad p k port ins (Cover t width) = bare_pad p k port
buffered_pad p k port ins Carry = bare_pad p k port
buffered_pad p k port ins (Flop falling enable reset) = bare_pad p k port
buffered_pad p k port ins (PadCell pin_type pullup) = record {
  port = k;
  pin_type = pin_type;
  pullup = pullup;
  drive = sink p (slice_index_or (pad_uses pin_type ins) 0 None);
  enable = sink p (slice_index_or (pad_uses pin_type ins) 1 None);
  reads = false;
}
buffered_pad p k port ins Global = bare_pad p k port

abbrev pub pad_by : PackPlan → List Cell → ℕ → Port → Option ℕ → DesignPad
pad_by p cells k port None = bare_pad p k port
pad_by p cells k port (Some i) = option_map_or (λ (cell : Cell). buffered_pad p k port cell.ins cell.kind) (slice_get cells i) (bare_pad p k port)

-- the pads of ports, the first of which is port k
abbrev pub pads_from : PackPlan → List Cell → ℕ → List Port → List DesignPad
pads_from p cells k [] = []
pads_from p cells k (port ∷ ports) = pad_by p cells k port (buffer_at cells port.signal.0) ∷ pads_from p cells (k + 1) ports

-- what an SB_GB reads
abbrev pub global_by : PackPlan → CellKind → List (Option SignalNo) → List (Option Root)
global_by p (Lut t) ins = []
global_by p (Cover t width) ins = []
global_by p Carry ins = []
global_by p (Flop falling enable reset) ins = []
global_by p (PadCell pin_type pullup) ins = []
global_by p Global ins = sink p (slice_index_or ins 0 None) ∷ []

abbrev pub globals_of : PackPlan → List Cell → List (Option Root)
globals_of p cells = flat_map (λ (cell : Cell). global_by p cell.kind cell.ins) cells

-- ---- what comes into carries
abbrev pub carry_source : Option Root → CarryIn
carry_source None = carry_in.Fixed false
carry_source (Some root) = carry_in.Read root

abbrev pub carry_input : List (Option Root) → Origin → CarryIn
carry_input roots (Fixed level) = carry_in.Fixed level
carry_input roots (Pad k) = carry_in.Read (PadIn k)
carry_input roots (Made j) = carry_source (slice_index_or roots j None)

abbrev pub carry_by : PackPlan → ℕ → CellKind → List (Option SignalNo) → List (Option SignalNo) → List (ℕ × CarryIn)
carry_by p c (Lut t) ins outs = []
carry_by p c (Cover t width) ins outs = []
carry_by p c Carry ins outs = if dropped outs then [] else (c, carry_input p.roots (input_origin p.origins (slice_index_or ins 2 None))) ∷ []
carry_by p c (Flop falling enable reset) ins outs = []
carry_by p c (PadCell pin_type pullup) ins outs = []
carry_by p c Global ins outs = []

-- those of cells, the first of which has number j
abbrev pub carries_from : PackPlan → List ℕ → ℕ → List Cell → List (ℕ × CarryIn)
carries_from p hs j [] = []
carries_from p hs j (cell ∷ cells) = carry_by p (slice_index_or hs j 0) cell.kind cell.ins cell.outs ++ carries_from p hs (j + 1) cells

-- ---- the design
abbrev pub plan_by : List Cell → List Origin → Facts → PackPlan
plan_by cells os facts = record {
  origins = os;
  facts = facts;
  carriers = carriers_of facts;
  roots = roots_from os (homes facts) 0 0 cells;
  zero = length (openers facts);
  one = length (openers facts) + one_if (needs_zero os cells);
}

abbrev pub facts : NetlistData → Facts
facts n = facts_of (origins n) n.cells (bare_outputs n)

abbrev pub plan_of : NetlistData → PackPlan
plan_of n = plan_by n.cells (origins n) (facts n)

-- all logic cells: those that are opened at the netlist's, and then those of constants
abbrev pub cells_by : PackPlan → List Cell → List Port → List ℕ → List LogicCell
cells_by p cells bare opened = map (cell_of p cells) opened ++ constant_if (needs_zero p.origins cells) false ++ constant_if (needs_one p.origins cells bare) true

-- the design by a plan, before it is known which pads are read
abbrev pub unread_by : NetlistData → PackPlan → Design
unread_by n p = record {
  cells = cells_by p n.cells (bare_outputs n) (openers p.facts);
  runs = [];
  pads = pads_from p n.cells 0 n.ports;
  globals = globals_of p n.cells;
  carries = carries_from p (homes p.facts) 0 n.cells;
}

abbrev pub read_pad : Design → DesignPad → DesignPad
read_pad d pad = record { port = pad.port; pin_type = pad.pin_type; pullup = pad.pullup; drive = pad.drive; enable = pad.enable; reads = is_read d (PadIn pad.port) }

abbrev pub with_reads : Design → Design
with_reads d = record { cells = d.cells; runs = d.runs; pads = map (read_pad d) d.pads; globals = d.globals; carries = d.carries }

-- the design of a netlist before its runs are made
abbrev pub packed : NetlistData → Design
packed n = with_reads (unread_by n (plan_of n))
