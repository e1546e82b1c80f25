use Rattle.std.proofs.Common.{◌≡◌, ◌++◌, filter}
use Rattle.ice_sites.specs.Site.{is_site}
use Rattle.ice_sites.specs.Stretches.{column}
use Rattle.ice_sites.proofs.ordered.add_column.Given as goal

abbrev pub invariant-loop-y : goal.invariant-loop-y
invariant-loop-y l = l.sites.items ≡ l.fn.sites.items ++ filter (is_site l.fn.index.chip.now) (column l.x l.y)
