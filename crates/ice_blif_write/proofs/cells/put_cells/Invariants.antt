use Rattle.std.proofs.Common.{◌≡◌, ◌++◌, map, take, All}
use Rattle.std.specs.List.{flat_map}
use Rattle.ice_base.specs.Lines.{text_of_lines}
use Rattle.ice_blif_write.specs.RoundTrip.{IsSmallCell}
use Rattle.ice_blif_write.specs.Text.{line_of, cell_lines}
use Rattle.ice_blif_write.proofs.cells.put_cells.Given as goal

abbrev pub invariant-loop-cell : goal.invariant-loop-cell
invariant-loop-cell l = record {
  small : All IsSmallCell (take l.cell-index l.cells);
  written : l.out.items ≡ l.fn.out.items ++ text_of_lines (map line_of (flat_map (cell_lines l.netlist.names) (take l.cell-index l.cells)));
}
