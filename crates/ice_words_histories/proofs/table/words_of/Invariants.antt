use Rattle.std.proofs.Common.{◌≡◌, ◌∷◌, take}
use Rattle.ice_words_histories.proofs.table.words_of.Given as goal

abbrev pub invariant-loop-history : goal.invariant-loop-history
invariant-loop-history l = l.words.items ≡ 0 ∷ take l.history-index l.histories
