use Rattle.std.proofs.Common.{◌≡◌, ◌∷◌, take}
use Rattle.ice_words.proofs.table.words_of.Given as goal

abbrev pub invariant-loop-count : goal.invariant-loop-count
invariant-loop-count l = l.words.items ≡ 0 ∷ 0 ∷ 0 ∷ take l.count-index l.counts
