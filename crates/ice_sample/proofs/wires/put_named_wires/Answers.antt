use Rattle.std.proofs.Common.{arith}
use Rattle.ice_sample.specs.Wires.{wire_lines}
use Rattle.ice_base.proofs.Pieces.{further}
use Rattle.ice_sample.proofs.Numbering.{mapped_more, nothing_more}
use Rattle.ice_sample.proofs.wires.put_named_wires.Goals as goal

pub loop-name-init : goal.loop-name-init
loop-name-init c = record { counted = omega arith; written = nothing_more c.args.text.now.items }

pub loop-name-preserved : goal.loop-name-preserved
loop-name-preserved c =
    let before = c.loop-name.invariant.counted in
    record {
      counted = omega arith;
      written = further _ _ _ _ _ _ c.loop-name.invariant.written c.in_ok-put_wire.ensures
          (mapped_more (λ name. name.now) (wire_lines c.args.at) c.args.first c.args.names.now c.loop-name.name-index _ c.loop-name.wire (omega arith) before);
    }
