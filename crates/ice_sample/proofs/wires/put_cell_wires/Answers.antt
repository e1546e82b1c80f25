use Rattle.std.proofs.Common.{arith}
use Rattle.ice_sample.specs.Wires.{wire_lines, cell_name}
use Rattle.ice_base.proofs.Pieces.{further}
use Rattle.ice_sample.proofs.Numbering.{mapped_more, nothing_more}
use Rattle.ice_sample.proofs.wires.put_cell_wires.Goals as goal

pub loop-pin-init : goal.loop-pin-init
loop-pin-init c = record { counted = omega arith; written = nothing_more c.args.text.now.items }

pub loop-pin-preserved : goal.loop-pin-preserved
loop-pin-preserved c =
    let before = c.loop-pin.invariant.counted in
    record {
      counted = omega arith;
      written = further _ _ _ _ _ _ c.loop-pin.invariant.written c.in_ok-put_cell_wire.ensures
          (mapped_more (λ pin. cell_name c.args.cell pin.now) (wire_lines c.args.at) c.args.first c.args.pins.now c.loop-pin.pin-index _ c.loop-pin.wire (omega arith) before);
    }
