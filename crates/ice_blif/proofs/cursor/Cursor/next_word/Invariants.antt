use Rattle.std.proofs.Common.{◌≡◌, length}
use Rattle.ice_blif.specs.Views.{words_left, lines_left}
use Rattle.ice_blif.proofs.cursor.Cursor.next_word.Given as goal

abbrev pub invariant-loop-word : goal.invariant-loop-word
invariant-loop-word l = (words_left l.self ≡ words_left l.fn.self) × (lines_left l.self ≡ lines_left l.fn.self)

abbrev pub decreases-loop-word : goal.decreases-loop-word
decreases-loop-word l = length l.self.lines
