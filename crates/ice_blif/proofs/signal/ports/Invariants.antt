use Rattle.std.proofs.Common.{◌≡◌, ◌≤◌, length}
use Rattle.ice_blif.specs.Grammar.{ports_say}
use Rattle.ice_blif.specs.Views.{words_left, lines_left}
use Rattle.ice_blif.proofs.signal.ports.Given as goal

abbrev pub invariant-loop-name : goal.invariant-loop-name
invariant-loop-name l = record {
  ports : ports_say l.line l.way l.fn.netlist (words_left l.fn.words) ≡ ports_say l.line l.way l.netlist (words_left l.words);
  kept : length l.fn.netlist.names ≤ length l.netlist.names;
  cells : l.netlist.cells ≡ l.fn.netlist.cells;
  lines : lines_left l.words ≡ lines_left l.fn.words;
}

abbrev pub decreases-loop-name : goal.decreases-loop-name
decreases-loop-name l = length (words_left l.words)
