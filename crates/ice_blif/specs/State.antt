-- What a netlist text has said so far: cells that grow, how they join the netlist, and the signals that its names are.
use Rattle.std.specs.Prelude.{ℕ, Bool, List, Option, ◌+◌, [], ◌∷◌, ◌++◌, length, take, Some, bit_or}
use Rattle.ice_base.specs.declared.number.SignalNo.{SignalNo}
use Rattle.ice_net.specs.declared.cell.Cell.{Cell}
use Rattle.ice_net.specs.NetlistData.{NetlistData}
use Rattle.ice_base.specs.Lists.{with_name, number_of_name}
use Rattle.ice_net.specs.declared.kind.CellKind as kinds
use Rattle.ice_net.specs.declared.kind.CellKind.{CellKind}
use Rattle.ice_net.specs.Kinds.{outs_count}
use Rattle.ice_blif.specs.Covers.{row_table, table_of}

-- a cover whose rows may be read
pub record OpenCover : Type 0 where
  -- the number of its `.names` line
  pub line : ℕ
  -- the signals of its inputs, and that of its output
  pub ins : List (Option SignalNo)
  pub outs : List (Option SignalNo)
  -- bit j says whether a row so far has the levels with the number j
  pub covered : ℕ
  -- the level that the rows so far give
  pub level : Option Bool

-- the cell that was made last: none, a gate, to which parameters belong, a RAM, to which they belong too but which is no cell of the
-- netlist, or a cover, to which rows belong
pub data LastCell : Type 0 where
  Nothing : LastCell
  Gate : Cell → LastCell
  Memory : LastCell
  Rows : OpenCover → LastCell

-- the netlist after a name appears
abbrev pub named : NetlistData → List ℕ → NetlistData
named n name = record { names = with_name n.names name; ports = n.ports; cells = n.cells }

-- the signal of a name that appears
abbrev pub signal_of : NetlistData → List ℕ → SignalNo
signal_of n name = record { 0 = number_of_name n.names name }

-- a cover with one row more
abbrev pub with_cover_row : OpenCover → List ℕ → Bool → OpenCover
with_cover_row c row level = record { line = c.line; ins = c.ins; outs = c.outs; covered = bit_or c.covered (row_table row); level = Some level }

-- the cell of a cover with all its rows
abbrev pub cover_cell : OpenCover → Cell
cover_cell c = record { kind = kinds.TheVariants.Cover (table_of (length c.ins) c.level c.covered) (length c.ins); line = c.line; ins = c.ins; outs = c.outs }

abbrev pub with_kind : Cell → CellKind → Cell
with_kind cell kind = record { kind = kind; line = cell.line; ins = cell.ins; outs = cell.outs }

-- ---- the cell made last joins the others
abbrev pub with_cell : NetlistData → Cell → NetlistData
with_cell n cell = record { names = n.names; ports = n.ports; cells = n.cells ++ cell ∷ [] }

abbrev pub finished : NetlistData → LastCell → NetlistData
finished n Nothing = n
finished n (Gate cell) = with_cell n cell
finished n Memory = n
finished n (Rows cover) = with_cell n (cover_cell cover)

-- a cell without outputs behind those of its kind
abbrev pub own_cell : Cell → Cell
own_cell cell = record { kind = cell.kind; line = cell.line; ins = cell.ins; outs = take (outs_count cell.kind) cell.outs }
