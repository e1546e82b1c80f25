use Rattle.ice_ram_read.proofs.RowWords.{SetTo}
use Rattle.ice_ram_read.proofs.contents.set_row.Given as goal

abbrev pub invariant-loop-i : goal.invariant-loop-i
invariant-loop-i l = SetTo l.fn.words l.row l.digits l.i l.words
