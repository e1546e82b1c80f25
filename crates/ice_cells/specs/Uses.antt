-- Who reads what in a netlist, through aliases, and how each cell is read.
use Rattle.std.specs.Prelude.{ℕ, ◌+◌, ◌==◌, not, Bool, false, List, [], ◌∷◌, ◌++◌, map, filter, length, Option, None, Some, if◌then◌else◌, slice_index_or, is_none}
use Rattle.ice_base.specs.declared.number.SignalNo.{SignalNo}
use Rattle.ice_net.specs.declared.cell.Cell.{Cell}
use Rattle.ice_net.specs.declared.kind.CellKind.{CellKind}
use Rattle.ice_net.specs.declared.kind.CellKind.TheVariants.{Lut, Cover, Carry, Flop, PadCell, Global}
use Rattle.ice_net.specs.declared.port.Port.{Port}
use Rattle.ice_net.specs.declared.port.Way.{Way}
use Rattle.ice_net.specs.declared.port.Way.TheVariants.{Input, Output, Both}
use Rattle.ice_net.specs.NetlistData.{NetlistData}
use Rattle.ice_net.specs.Drivers.{has_buffer}
use Rattle.ice_net.specs.Uses.{pad_uses}
use Rattle.ice_cells.specs.declared.origin.Origin.{Origin}
use Rattle.ice_cells.specs.declared.origin.Origin.TheVariants.{Fixed, Pad, Made}
use Rattle.ice_cells.specs.declared.origin.Use.{Use}
use Rattle.ice_cells.specs.declared.origin.Use.TheVariants.{Nobody, Taken, Other}
use Rattle.ice_cells.specs.Origins.{is_alias, input_origin}
use Rattle.ice_cells.specs.Tables.{table, gathered, scattered}

-- what is read, and the flip-flop that reads it as the level that it takes: None where it is read in another way
abbrev pub Reading : Type 0
Reading = Origin × Option ℕ

-- a carry whose output is not connected is dropped
abbrev pub dropped : List (Option SignalNo) → Bool
dropped outs = is_none (slice_index_or outs 0 None)

-- the inputs by which a cell reads: none of an alias and of a carry that is dropped, and of an SB_IO those in use
abbrev pub reading_ins : CellKind → List (Option SignalNo) → List (Option SignalNo) → List (Option SignalNo)
reading_ins (Lut t) ins outs = ins
reading_ins (Cover t width) ins outs = if is_alias (Cover t width) then [] else ins
reading_ins Carry ins outs = if dropped outs then [] else ins
reading_ins (Flop falling enable reset) ins outs = ins
reading_ins (PadCell pin_type pullup) ins outs = pad_uses pin_type ins
reading_ins Global ins outs = ins

-- the second input of a flip-flop is what it takes
abbrev pub taker : ℕ → CellKind → ℕ → Option ℕ
taker j (Lut t) place = None
taker j (Cover t width) place = None
taker j Carry place = None
taker j (Flop falling enable reset) place = if place == 1 then Some j else None
taker j (PadCell pin_type pullup) place = None
taker j Global place = None

-- what cell j reads by inputs, the first of which has that place
abbrev pub reads_from : List Origin → ℕ → CellKind → ℕ → List (Option SignalNo) → List Reading
reads_from os j kind place [] = []
reads_from os j kind place (input ∷ ins) = (input_origin os input, taker j kind place) ∷ reads_from os j kind (place + 1) ins

-- what cells read, the first of which has that number
abbrev pub cells_read : List Origin → ℕ → List Cell → List Reading
cells_read os j [] = []
cells_read os j (cell ∷ cells) = reads_from os j cell.kind 0 (reading_ins cell.kind cell.ins cell.outs) ++ cells_read os (j + 1) cells

-- an Output port without an SB_IO
abbrev pub is_bare_way : Way → Bool → Bool
is_bare_way Input buffered = false
is_bare_way Output buffered = not buffered
is_bare_way Both buffered = false

abbrev pub is_bare_output : List Cell → Port → Bool
is_bare_output cells port = is_bare_way port.way (has_buffer cells port.signal.0)

abbrev pub bare_outputs : NetlistData → List Port
bare_outputs n = filter (is_bare_output n.cells) n.ports

-- it reads its signal
abbrev pub port_reading : List Origin → Port → Reading
port_reading os port = (input_origin os (Some port.signal), None)

-- all that is read
abbrev pub readings : List Origin → List Cell → List Port → List Reading
readings os cells bare = cells_read os 0 cells ++ map (port_reading os) bare

-- ---- how each cell is read
abbrev pub first_use : Option ℕ → Use
first_use None = Other
first_use (Some f) = Taken f

abbrev pub use_after : Use → Option ℕ → Use
use_after Nobody reader = first_use reader
use_after (Taken f) reader = Other
use_after Other reader = Other

abbrev pub maker : Origin → Option ℕ
maker (Fixed level) = None
maker (Pad k) = None
maker (Made j) = Some j

abbrev pub made_by : Reading → Option ℕ
made_by reading = maker reading.0

abbrev pub after : Use → Reading → Use
after before reading = use_after before reading.1

-- how cell j is read
abbrev pub use_of : List Origin → List Cell → List Port → ℕ → Use
use_of os cells bare j = gathered made_by after j Nobody (readings os cells bare)

abbrev pub uses : List Origin → List Cell → List Port → List Use
uses os cells bare = table (use_of os cells bare) (length cells)

-- the flip-flop that alone reads a cell, as the level that it takes
abbrev pub taker_of : Use → Option ℕ
taker_of Nobody = None
taker_of (Taken f) = Some f
taker_of Other = None

-- ---- the same, all cells at once
abbrev pub marked : List Use → List Reading → List Use
marked marks reads = scattered made_by after Nobody marks reads
