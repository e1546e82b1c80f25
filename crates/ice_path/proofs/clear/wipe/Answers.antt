use Rattle.std.proofs.Common.{None, false, ℕ, length-set, ◌∙◌, slice_index_or, arith}
use Rattle.ice_path.proofs.Clearing.{wiped_more}
use Rattle.ice_path.proofs.clear.wipe.Goals as goal

pub loop-wire-preserved : goal.loop-wire-preserved
loop-wire-preserved c =
    let i = c.loop-wire.invariant in
    let w : ℕ = slice_index_or c.args.touched.now c.loop-wire.wire-index 0 in
    let lt = c.requires.within c.loop-wire.wire-index 0 c.loop-wire-test.true in
    record {
      labels = length-set c.loop-wire.labels w None ∙ i.labels;
      settled = length-set c.loop-wire.settled w false ∙ i.settled;
      only = wiped_more c.loop-wire.labels c.loop-wire.settled c.args.touched.now c.loop-wire.wire-index c.loop-wire-test.true (omega (arith, lt, i.labels)) (omega (arith, i.labels, i.settled)) i.only;
    }
