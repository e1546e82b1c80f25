use Rattle.std.proofs.Common.{refl, arith}
use Rattle.ice_emit_settings.specs.Views.{views}
use Rattle.ice_emit_settings.proofs.Sited.{next_site, all_sites}
use Rattle.ice_emit_settings.proofs.rams.push_sites.Goals as goal

pub loop-k-preserved : goal.loop-k-preserved
loop-k-preserved c =
    next_site c.args.sites.now c.args.rams.now c.loop-k.k _ _ c.setup_at.result (views c.loop-k.made.items) (views c.push_site.new.made.items) _ (omega arith) refl c.setup_at.ensures c.in_ok-push_site.ensures c.loop-k.invariant

pub returns : goal.returns
returns c = all_sites c.args.sites.now c.args.rams.now c.loop-k.k (views c.loop-k.made.items) _ (omega arith) c.loop-k.invariant
