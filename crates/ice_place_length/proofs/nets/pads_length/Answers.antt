use Rattle.std.proofs.Common.{arith}
use Rattle.ice_place_defs.specs.Length.{pad_root, net_length}
use Rattle.ice_place_length.specs.Grown.{loads_in}
use Rattle.ice_place_defs.specs.Plan.{plan_in}
use Rattle.ice_place_length.proofs.Summing.{sum_more}
use Rattle.ice_place_length.proofs.nets.pads_length.Goals as goal

pub loop-k-preserved : goal.loop-k-preserved
loop-k-preserved c = record {
  so_far = sum_more (λ k. net_length (plan_in c.args.placed.now) (loads_in c.args.placed.now) (pad_root k)) c.loop-k.k c.loop-k.total c.net_length-total.result c.loop-k.invariant.so_far c.net_length-total.ensures.value;
  bound = (let few = c.net_length-total.ensures.bound in let before = c.loop-k.invariant.bound in omega arith);
}
