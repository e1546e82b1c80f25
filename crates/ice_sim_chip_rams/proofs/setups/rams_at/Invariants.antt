use Rattle.std.proofs.Common.{◌≡◌, take}
use Rattle.ice_sim_chip_rams.specs.ClosedChips.{rams_at}
use Rattle.ice_sim_chip_rams.proofs.setups.rams_at.Given as goal

abbrev pub invariant-loop-site : goal.invariant-loop-site
invariant-loop-site l = l.rams.items ≡ rams_at l.chip l.bits (take l.site-index l.sites)
