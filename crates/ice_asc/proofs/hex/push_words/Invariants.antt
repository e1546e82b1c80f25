use Rattle.std.proofs.Common.{◌≡◌, ◌++◌, map}
use Rattle.std.specs.List.{range_with_len}
use Rattle.ice_asc.specs.Hex.{row_word}
use Rattle.ice_asc.proofs.hex.push_words.Given as goal

abbrev pub invariant-loop-number : goal.invariant-loop-number
invariant-loop-number l = l.words.items ≡ l.fn.words.items ++ map (row_word l.values) (range_with_len 0 l.number)
