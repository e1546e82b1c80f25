use Rattle.std.proofs.Common.{◌≡◌, length}
use Rattle.ice_blif.specs.JoinedLines.{filled}
use Rattle.ice_blif.specs.Views.{lines_left}
use Rattle.ice_blif.proofs.cursor.Cursor.next_filled.Given as goal

abbrev pub invariant-loop-line : goal.invariant-loop-line
invariant-loop-line l = filled (lines_left l.self) ≡ filled (lines_left l.fn.self)

abbrev pub decreases-loop-line : goal.decreases-loop-line
decreases-loop-line l = length (lines_left l.self)
