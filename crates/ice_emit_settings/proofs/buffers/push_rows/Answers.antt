use Rattle.std.proofs.Common.{refl, arith}
use Rattle.ice_emit_settings.specs.Views.{views}
use Rattle.ice_emit_settings.proofs.Buffered.{next_buffers}
use Rattle.ice_emit_settings.proofs.buffers.push_rows.Goals as goal

pub loop-k-preserved : goal.loop-k-preserved
loop-k-preserved c =
    next_buffers c.args.chip.now c.args.rows.now c.loop-k.k _ _ (views c.args.made.now.items) (views c.loop-k.made.items) (views c.push_buffer.new.made.items)
    (omega arith) refl c.loop-k.invariant c.in_ok-push_buffer.ensures
