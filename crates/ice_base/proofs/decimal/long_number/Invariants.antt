use Rattle.std.proofs.Common.{drop}
use Rattle.ice_base.proofs.Digits.{ReadTo}
use Rattle.ice_base.proofs.decimal.long_number.Given as goal

abbrev pub invariant-loop-i : goal.invariant-loop-i
invariant-loop-i l = ReadTo l.word (drop l.i l.word) l.number
