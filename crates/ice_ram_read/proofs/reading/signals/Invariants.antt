use Rattle.std.proofs.Common.{◌≡◌, replicate, None, length}
use Rattle.ice_blif.specs.Views.{words_left, lines_left}
use Rattle.ice_ram_read.specs.RamTexts.{signals_said}
use Rattle.ice_ram_read.proofs.reading.signals.Given as goal

abbrev pub invariant-loop-word : goal.invariant-loop-word
invariant-loop-word l = record {
  said : signals_said l.netlist l.edges (replicate 76 None) (words_left l.fn.words) ≡ signals_said l.netlist l.edges l.signals (words_left l.words);
  lines : lines_left l.words ≡ lines_left l.fn.words;
}

abbrev pub decreases-loop-word : goal.decreases-loop-word
decreases-loop-word l = length (words_left l.words)
