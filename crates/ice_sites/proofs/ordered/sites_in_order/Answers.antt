use Rattle.std.proofs.Common.{sym, ◌∙◌}
use Rattle.ice_sites.specs.Site.{is_site}
use Rattle.ice_sites.proofs.InOrder.{no_column, next_column}
use Rattle.ice_sites.proofs.ordered.sites_in_order.Goals as goal

pub loop-x-init : goal.loop-x-init
loop-x-init c = c.new-sites.ensures.items ∙ sym (no_column (is_site c.args.index.now.chip.now))

pub loop-x-preserved : goal.loop-x-preserved
loop-x-preserved c = next_column (is_site c.args.index.now.chip.now) c.loop-x.x c.loop-x.sites.items c.add_sites.new.sites.items c.loop-x.invariant c.in_ok-add_sites.ensures
