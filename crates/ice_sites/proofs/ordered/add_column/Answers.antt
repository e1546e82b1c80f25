use Rattle.std.proofs.Common.{sym, ap, ◌∙◌}
use Rattle.ice_sites.specs.Site.{is_site}
use Rattle.ice_sites.proofs.InOrder.{no_place, next_place, other_place}
use Rattle.ice_sites.proofs.ordered.add_column.Goals.{then-is_site+in_ok-push, else-is_site}
use Rattle.ice_sites.proofs.ordered.add_column.Goals as goal

pub loop-y-init : goal.loop-y-init
loop-y-init c = no_place (is_site c.args.index.now.chip.now) c.args.x c.args.sites.now.items

pub loop-y-preserved : goal.loop-y-preserved
loop-y-preserved c =
    elim c.if-is_site.branch [
      | then-is_site+in_ok-push w ↦
          ap (λ v. v.items) w.sites-is ∙ w.in_ok-push.ensures.items
          ∙ next_place (is_site c.args.index.now.chip.now) c.args.x c.loop-y.y c.loop-y.sites.items c.args.sites.now.items c.loop-y.invariant (sym c.is_site.ensures ∙ w.if-is_site.true)
      | else-is_site w ↦
          ap (λ v. v.items) w.sites-is
          ∙ other_place (is_site c.args.index.now.chip.now) c.args.x c.loop-y.y c.loop-y.sites.items c.args.sites.now.items c.loop-y.invariant (sym c.is_site.ensures ∙ w.if-is_site.false)
    ]
