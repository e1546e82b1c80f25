use Rattle.std.proofs.Common.{◌≡◌, ◌≤◌, length, All}
use Rattle.ice_net.specs.Formed.{IsBelow}
use Rattle.ice_blif.specs.Grammar.{connections_say, no_wiring}
use Rattle.ice_blif.specs.Views.{wiring_view, words_left, lines_left}
use Rattle.ice_blif.proofs.gate.connections.Given as goal

abbrev pub invariant-loop-word : goal.invariant-loop-word
invariant-loop-word l = record {
  connections : connections_say l.line l.formals l.fn.netlist no_wiring (words_left l.fn.words) ≡ connections_say l.line l.formals l.netlist (wiring_view l.wiring) (words_left l.words);
  below : All (IsBelow (length l.netlist.names)) l.wiring.signals;
  kept : length l.fn.netlist.names ≤ length l.netlist.names;
  cells : l.netlist.cells ≡ l.fn.netlist.cells;
  lines : lines_left l.words ≡ lines_left l.fn.words;
}

abbrev pub decreases-loop-word : goal.decreases-loop-word
decreases-loop-word l = length (words_left l.words)
