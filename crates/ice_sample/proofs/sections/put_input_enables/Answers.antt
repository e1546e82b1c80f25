use Rattle.std.proofs.Common.{◌++◌, codes, arith}
use Rattle.ice_sample.specs.Sections.{pad_words}
use Rattle.ice_base.proofs.Pieces.{further}
use Rattle.ice_sample.proofs.Numbering.{line_below}
use Rattle.ice_sample.proofs.sections.put_input_enables.Goals as goal

pub loop-pad-preserved : goal.loop-pad-preserved
loop-pad-preserved c =
    further _ _ _ _ _ _ c.loop-pad.invariant c.in_ok-put_input_enable.ensures
    (line_below (codes ".ieren") (λ p. pad_words p ++ codes " " ++ pad_words p) c.args.pads.now c.loop-pad.pad-index _ (omega arith))
