use Rattle.std.proofs.Common.{◌≡◌, ◌*◌, ◌++◌}
use Rattle.ice_base.specs.Lines.{text_of_lines}
use Rattle.ice_sample.specs.Netlist.{started_at, after, all_cell_lines}
use Rattle.ice_sample.proofs.netlist.put_cells.Given as goal

abbrev pub invariant-loop-cell : goal.invariant-loop-cell
invariant-loop-cell l = record {
  drawn : l.rng ≡ after (5 * l.cell) (started_at l.number);
  written : l.text.items ≡ l.fn.text.items ++ text_of_lines (all_cell_lines (started_at l.number) l.cell);
}
