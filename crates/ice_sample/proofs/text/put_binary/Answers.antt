use Rattle.std.proofs.Common.{arith}
use Rattle.ice_sample.proofs.Numbering.{binary_step, digit_moves}
use Rattle.ice_sample.proofs.text.put_binary.Goals as goal

pub loop-left-preserved : goal.loop-left-preserved
loop-left-preserved c = record {
  few = omega arith;
  written = digit_moves _ _ _ _ _ _ (binary_step c.loop-left.left c.args.number (omega arith)) c.in_ok-push.ensures.items c.loop-left.invariant.written;
}
