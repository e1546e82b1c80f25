use Rattle.std.proofs.Common.{◌≡◌, ◌+◌, length, if◌then◌else◌}
use Rattle.ice_blif.specs.Views.{lines_left}
use Rattle.ice_blif.proofs.cursor.Cursor.skip.Given as goal

abbrev pub invariant-loop-self : goal.invariant-loop-self
invariant-loop-self l = lines_left l.self ≡ lines_left l.fn.self

abbrev pub decreases-loop-self : goal.decreases-loop-self
decreases-loop-self l = length l.self.lines + (if l.self.goes_on then 1 else 0)
