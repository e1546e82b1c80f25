use Rattle.std.proofs.Common.{arith}
use Rattle.ice_emit_nets.proofs.Seen.{first_step, first_end_all, free_are}
use Rattle.ice_emit_nets.proofs.free.push_free.Goals as goal

pub loop-k-preserved : goal.loop-k-preserved
loop-k-preserved c = first_step c.args.targets.now c.args.ins.now c.loop-k.k c.loop-k.ends.items c.push_first.new.ends.items _ (omega arith) c.in_ok-push_first.ensures c.loop-k.invariant

pub returns : goal.returns
returns c =
    free_are c.args.targets.now c.args.ins.now c.args.ends.now.items c.loop-k.ends.items (first_end_all c.args.targets.now c.args.ins.now c.loop-k.k c.loop-k.ends.items _ (omega arith) c.loop-k.invariant)
