use Rattle.std.proofs.Common.{refl, arith}
use Rattle.ice_emit_settings.proofs.Enabling.{next_read, all_read}
use Rattle.ice_emit_settings.proofs.enables.add_all_read.Goals as goal

pub loop-k-preserved : goal.loop-k-preserved
loop-k-preserved c =
    next_read c.args.pads.now c.args.ports.now c.loop-k.k _ _ c.pad_at.result c.loop-k.found.keys c.add_read_at.new.pads.keys _ (omega arith) refl c.pad_at.ensures c.in_ok-add_read_at.ensures c.loop-k.invariant

pub returns : goal.returns
returns c = all_read c.args.pads.now c.args.ports.now c.loop-k.k c.args.found.now.keys c.loop-k.found.keys (omega arith) c.loop-k.invariant
