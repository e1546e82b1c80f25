-- Cells of one kind that are added to a netlist, one behind the other.
use Rattle.std.specs.Prelude.{ℕ, ◌+◌, List, [], ◌∷◌, Option, Some}
use Rattle.ice_base.specs.declared.number.SignalNo.{SignalNo}
use Rattle.ice_net.specs.declared.cell.Cell.{Cell}
use Rattle.ice_net.specs.declared.kind.CellKind.{CellKind}

-- a cell that reads these signals and drives this one; it stands in no line of a text
abbrev pub added_cell : CellKind → ℕ → List (Option SignalNo) → Cell
added_cell kind out ins = record { kind = kind; line = 0; ins = ins; outs = Some (record { 0 = out }) ∷ [] }

-- one for each of these lists of inputs: the first drives the signal `next`, and so on
abbrev pub added_cells : CellKind → ℕ → List (List (Option SignalNo)) → List Cell
added_cells kind next [] = []
added_cells kind next (ins ∷ others) = added_cell kind next ins ∷ added_cells kind (next + 1) others
