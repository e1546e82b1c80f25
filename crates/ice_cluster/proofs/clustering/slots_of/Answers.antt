use Rattle.std.proofs.Common.{◌≡◌, ◌-◌, ◌++◌, ◌∙◌, Some, None, length, map, replicate, ap, arith, rules}
use Rattle.ice_cluster.proofs.Opening.{slot_more, free_more}
use Rattle.ice_cluster.proofs.clustering.slots_of.Goals as goal

pub loop-c-preserved : goal.loop-c-preserved
loop-c-preserved c = slot_more c.args.cells.now c.loop-c.c-index _ c.loop-c.slots.items _ (omega arith) c.loop-c.invariant c.in_ok-push.ensures.items

pub loop-free-preserved : goal.loop-free-preserved
loop-free-preserved c = free_more (map (λ c. Some c) c.args.cells.now) c.loop-free.free c.loop-free.slots.items _ c.loop-free.invariant c.in_ok-push-2.ensures.items

pub returns : goal.returns
returns c =
    let all : c.loop-free.free ≡ 8 - length c.args.cells.now = search rules in
    c.loop-free.invariant ∙ ap (λ n. map (λ c. Some c) c.args.cells.now ++ replicate n None) all
