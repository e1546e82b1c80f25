use Rattle.std.proofs.Common.{sym, ◌∙◌, arith}
use Rattle.ice_sites.specs.Site.{has_chain}
use Rattle.ice_sites.proofs.Below.{fails}
use Rattle.ice_sites.proofs.site.has_chains.Goals as goal

pub returns-then-not-has_chain : goal.returns-then-not-has_chain
returns-then-not-has_chain c = sym (fails (has_chain c.args.index.now.chip.now c.args.tile) c.loop-cell.cell 7 (sym c.has_chain.ensures ∙ c.if-not-has_chain.true) (omega arith))
