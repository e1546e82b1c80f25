use Rattle.std.proofs.Common.{refl, arith}
use Rattle.ice_emit_nets.specs.Given.{pad_ends}
use Rattle.ice_emit_nets.proofs.Siding.{sides_step, sides_end, pads_are}
use Rattle.ice_emit_nets.proofs.pads.push_pads.Goals as goal

pub loop-k-preserved : goal.loop-k-preserved
loop-k-preserved c =
    sides_step (pad_ends c.args.chip.now) c.args.ports.now c.args.pads.now c.loop-k.k _ _ c.place_at.result c.loop-k.ends.items c.push_pad_at.new.ends.items _ (omega arith) refl c.place_at.ensures c.in_ok-push_pad_at.ensures c.loop-k.invariant

pub returns : goal.returns
returns c =
    pads_are c.args.chip.now c.args.ports.now c.args.pads.now c.args.ends.now.items c.loop-k.ends.items
    (sides_end (pad_ends c.args.chip.now) c.args.ports.now c.args.pads.now c.loop-k.k c.loop-k.ends.items _ (omega arith) c.loop-k.invariant)
