use Rattle.std.proofs.Common.{◌≡◌, false, replicate}
use Rattle.ice_sim_chip_rams.proofs.setups.no_words.Given as goal

abbrev pub invariant-loop-word : goal.invariant-loop-word
invariant-loop-word l = l.words.items ≡ replicate l._word (replicate 16 false)
