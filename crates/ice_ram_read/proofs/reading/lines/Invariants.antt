use Rattle.std.proofs.Common.{◌≡◌, ◌++◌, length}
use Rattle.ice_blif.specs.JoinedLines.{filled}
use Rattle.ice_blif.specs.Views.{lines_left}
use Rattle.ice_ram_read.specs.RamTexts.{rams_said}
use Rattle.ice_ram_read.proofs.reading.lines.Given as goal

abbrev pub invariant-loop-first : goal.invariant-loop-first
invariant-loop-first l =
    l.fn.rams.items ++ rams_said l.netlist l.fn.last (filled (lines_left l.fn.words)) ≡ l.rams.items ++ rams_said l.netlist l.last (filled (lines_left l.words))

abbrev pub decreases-loop-first : goal.decreases-loop-first
decreases-loop-first l = length (filled (lines_left l.words))
