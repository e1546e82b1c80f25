use Rattle.ice_pack_share.proofs.Openers.{homes_more}
use Rattle.ice_pack_share.proofs.placing.numbers_of.Goals as goal

pub loop-j-preserved : goal.loop-j-preserved
loop-j-preserved c = homes_more c.args.facts.now c.loop-j.j c.home.result c.loop-j.found.items _ c.loop-j.invariant c.home.ensures c.in_ok-push.ensures.items
