use Rattle.std.proofs.Common.{◌≡◌, ◌≤◌, [], length, All}
use Rattle.ice_net.specs.Formed.{IsPresent}
use Rattle.ice_blif.specs.Grammar.{cover_signals}
use Rattle.ice_blif.specs.Views.{words_left, lines_left}
use Rattle.ice_blif.proofs.cover.cover_signals.Given as goal

abbrev pub invariant-loop-word : goal.invariant-loop-word
invariant-loop-word l = record {
  signals : cover_signals l.line l.fn.netlist [] (words_left l.fn.words) ≡ cover_signals l.line l.netlist l.signals.items (words_left l.words);
  short : length l.signals.items ≤ 5;
  present : All (IsPresent (length l.netlist.names)) l.signals.items;
  kept : length l.fn.netlist.names ≤ length l.netlist.names;
  cells : l.netlist.cells ≡ l.fn.netlist.cells;
  lines : lines_left l.words ≡ lines_left l.fn.words;
}

abbrev pub decreases-loop-word : goal.decreases-loop-word
decreases-loop-word l = length (words_left l.words)
