use Rattle.std.proofs.Common.{◌++◌, ◌∷◌, [], codes, decimal, arith}
use Rattle.ice_sample.specs.Sections.{pad_words}
use Rattle.ice_base.proofs.Pieces.{further}
use Rattle.ice_sample.proofs.Numbering.{row_more}
use Rattle.ice_sample.proofs.sections.put_pins.Goals as goal

pub loop-pad-preserved : goal.loop-pad-preserved
loop-pad-preserved c = record {
  counted = omega arith;
  written = further _ _ _ _ _ _ c.loop-pad.invariant.written c.in_ok-put_pin.ensures
      (row_more (codes ".pins sample") (λ pin p. (decimal pin ++ codes " " ++ pad_words p) ∷ []) 1 c.args.pads.now c.loop-pad.pad-index _ c.loop-pad.pin (omega arith) c.loop-pad.invariant.counted);
}
