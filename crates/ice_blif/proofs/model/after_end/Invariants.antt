use Rattle.std.proofs.Common.{◌≡◌, length}
use Rattle.ice_blif.specs.Grammar.{after_end}
use Rattle.ice_blif.specs.JoinedLines.{filled}
use Rattle.ice_blif.specs.Views.{lines_left}
use Rattle.ice_blif.proofs.model.after_end.Given as goal

abbrev pub invariant-loop-first : goal.invariant-loop-first
invariant-loop-first l = after_end (filled (lines_left l.fn.words)) ≡ after_end (filled (lines_left l.words))

abbrev pub decreases-loop-first : goal.decreases-loop-first
decreases-loop-first l = length (filled (lines_left l.words))
