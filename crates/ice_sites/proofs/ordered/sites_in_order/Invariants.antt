use Rattle.std.proofs.Common.{◌≡◌, filter}
use Rattle.ice_sites.specs.Site.{is_site}
use Rattle.ice_sites.specs.Stretches.{columns}
use Rattle.ice_sites.proofs.ordered.sites_in_order.Given as goal

abbrev pub invariant-loop-x : goal.invariant-loop-x
invariant-loop-x l = l.sites.items ≡ filter (is_site l.fn.index.chip.now) (columns l.x)
