use Rattle.std.proofs.Common.{◌≡◌, length, rules}
use Rattle.ice_pack_share.proofs.Openers.{openers_more, counts_more}
use Rattle.ice_pack_share.proofs.placing.find_openers.Goals as goal

pub loop-j-preserved : goal.loop-j-preserved
loop-j-preserved c =
    let l : c.len.result ≡ length c.loop-j.found.items = search rules in (
      openers_more c.args.facts.now c.loop-j.j c.opens.result c.loop-j.found.items _ c.loop-j.invariant.0 c.opens.ensures c.in_ok-open.ensures,
      counts_more c.args.facts.now c.loop-j.j c.len.result c.loop-j.found.items c.loop-j.counted.items _ c.loop-j.invariant.0 l c.loop-j.invariant.1 c.in_ok-push.ensures.items,
    )
