use Rattle.std.proofs.Common.{◌++◌, codes, arith}
use Rattle.ice_sample.specs.Lines.{place_words}
use Rattle.ice_base.proofs.Pieces.{further}
use Rattle.ice_sample.proofs.Numbering.{line_below}
use Rattle.ice_sample.proofs.sections.put_column_buffers.Goals as goal

pub loop-at-preserved : goal.loop-at-preserved
loop-at-preserved c =
    further _ _ _ _ _ _ c.loop-at.invariant c.in_ok-put_column_buffer.ensures
    (line_below (codes ".colbuf") (λ t. place_words t ++ codes " " ++ place_words t) c.args.places.now c.loop-at.at-index _ (omega arith))
