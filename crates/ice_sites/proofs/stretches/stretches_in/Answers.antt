use Rattle.std.proofs.Common.{sym, ap, ◌∙◌}
use Rattle.ice_sites.specs.Site.{is_link}
use Rattle.ice_sites.proofs.Cutting.{goes_step, ends_step, all_cut}
use Rattle.ice_sites.proofs.stretches.stretches_in.Goals.{then-not-goes_on+in_ok-push-2, else-not-goes_on}
use Rattle.ice_sites.proofs.stretches.stretches_in.Goals as goal

pub loop-k-preserved : goal.loop-k-preserved
loop-k-preserved c =
    let link = is_link c.args.index.now.chip.now in
    elim c.if-not-goes_on.branch [
      | then-not-goes_on+in_ok-push-2 w ↦
          ends_step link c.args.sites.now c.loop-k.k (record { x = 0; y = 0 }) c.loop-k.open.items _ c.if-not-goes_on.open.items c.loop-k.stretches.items c.if-not-goes_on.stretches.items _ c.loop-k-test.true
          (sym c.goes_on.ensures ∙ w.if-not-goes_on.true)
          (w.of.ensures ∙ ap (λ v. v.items) w.replace-tiles.ensures.value ∙ c.in_ok-push.ensures.items)
          (ap (λ v. v.items) w.open-is ∙ ap (λ v. v.items) w.replace-tiles.ensures.after ∙ w.new.ensures.items)
          (ap (λ v. v.items) w.stretches-is ∙ w.in_ok-push-2.ensures.items) c.loop-k.invariant
      | else-not-goes_on w ↦
          goes_step link c.args.sites.now c.loop-k.k (record { x = 0; y = 0 }) c.loop-k.open.items c.if-not-goes_on.open.items c.loop-k.stretches.items c.if-not-goes_on.stretches.items _ c.loop-k-test.true
          (sym c.goes_on.ensures ∙ w.if-not-goes_on.false)
          (ap (λ v. v.items) w.open-is ∙ c.in_ok-push.ensures.items)
          (ap (λ v. v.items) w.stretches-is) c.loop-k.invariant
    ]

pub returns : goal.returns
returns c = all_cut (is_link c.args.index.now.chip.now) c.args.sites.now c.loop-k.k c.loop-k.open.items c.loop-k.stretches.items _ c.loop-k-test.false c.loop-k.invariant
