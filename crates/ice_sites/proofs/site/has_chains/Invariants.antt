use Rattle.std.proofs.Common.{◌≡◌, true}
use Rattle.ice_sites.specs.Site.{all_below, has_chain}
use Rattle.ice_sites.proofs.site.has_chains.Given as goal

abbrev pub invariant-loop-cell : goal.invariant-loop-cell
invariant-loop-cell l = all_below (has_chain l.fn.index.chip.now l.tile) l.cell ≡ true
