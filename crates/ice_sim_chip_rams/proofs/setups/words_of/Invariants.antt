use Rattle.std.proofs.Common.{◌≡◌, drop}
use Rattle.ice_sim_chip_rams.specs.ClosedChips.{words_of, no_words}
use Rattle.ice_sim_chip_rams.proofs.Words.{found}
use Rattle.ice_sim_chip_rams.proofs.setups.words_of.Given as goal

abbrev pub invariant-loop-content : goal.invariant-loop-content
invariant-loop-content l = words_of l.bits l.site ≡ found l.site.lower no_words (drop l.content-index l.content-items)
