-- The ends of carry chains. Where a look-up table alone reads a carry, by its last input, a carry is added that reads what the table reads at its
-- other inputs but the first, and that carry. It shares the table's logic cell, so that the cell is the next of the run, and reads the carry from within.
use Rattle.std.specs.Prelude.{ℕ, ◌+◌, List, [], ◌∷◌, ◌++◌, codes, length, map, take, Option, None, slice_get, slice_index_or}
use Rattle.std.specs.Option.{option_map_or}
use Rattle.ice_base.specs.declared.number.SignalNo.{SignalNo}
use Rattle.ice_net.specs.declared.cell.Cell.{Cell}
use Rattle.ice_net.specs.declared.kind.CellKind.TheVariants.{Carry}
use Rattle.ice_net.specs.NetlistData.{NetlistData}
use Rattle.ice_net_additions.specs.AddedCells.{added_cell, added_cells}

-- ---- names
-- a name that no text has
abbrev pub tail_name : List ℕ → List ℕ
tail_name name = name ++ codes " tail"

-- so many new names: the first ones that there are, with a blank and `tail` behind them
abbrev pub tail_names : List (List ℕ) → ℕ → List (List ℕ)
tail_names names count = map tail_name (take count names)

-- ---- cells
-- a carry that reads these signals and drives one that nothing reads
abbrev pub tail : ℕ → List (Option SignalNo) → Cell
tail out ins = added_cell Carry out ins

-- one for each of these lists of inputs: the first drives the signal `next`, and so on
abbrev pub tails : ℕ → List (List (Option SignalNo)) → List Cell
tails next lists = added_cells Carry next lists

-- what the carry at a table reads: what the table does at its second, third and last input
abbrev pub behind : List (Option SignalNo) → List (Option SignalNo)
behind ins = slice_index_or ins 1 None ∷ slice_index_or ins 2 None ∷ slice_index_or ins 3 None ∷ []

abbrev pub read_behind : List Cell → ℕ → List (Option SignalNo)
read_behind cells i = behind (option_map_or (λ (cell : Cell). cell.ins) (slice_get cells i) [])

-- ---- the whole
-- the netlist with a carry at each of these tables
abbrev pub with_tails : NetlistData → List ℕ → NetlistData
with_tails n tables = record {
  names = n.names ++ tail_names n.names (length tables);
  ports = n.ports;
  cells = n.cells ++ tails (length n.names) (map (read_behind n.cells) tables);
}
