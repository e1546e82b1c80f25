use Rattle.std.proofs.Common.{ℕ, Option, None, not, ap}
use Rattle.ice_base.proofs.Pushed.{mapped_push}
use Rattle.ice_anneal.specs.Least.{is_rigid}
use Rattle.ice_anneal.proofs.free.free_of.Goals as goal

pub loop-own-preserved : goal.loop-own-preserved
loop-own-preserved c =
    let chunks = c.args.chunks.now in
    mapped_push (λ (own : Option (ℕ × ℕ)). not (is_rigid chunks own)) chunks c.loop-own.own-index None (not c.is_rigid.result) c.loop-own.free.items c.push.new.self.items c.loop-own-test.true
    c.loop-own.invariant c.in_ok-push.ensures.items (ap not (c.is_rigid.ensures chunks c.requires))
