use Rattle.std.proofs.Common.{◌∷◌, [], codes, arith}
use Rattle.ice_sample.specs.Lines.{placed_words}
use Rattle.ice_base.proofs.Pieces.{further}
use Rattle.ice_sample.proofs.Numbering.{row_more}
use Rattle.ice_sample.proofs.sections.put_globals.Goals as goal

pub loop-at-preserved : goal.loop-at-preserved
loop-at-preserved c = record {
  counted = omega arith;
  few = c.loop-at.invariant.few;
  written = further _ _ _ _ _ _ c.loop-at.invariant.written c.in_ok-put_global.ensures
      (row_more (codes ".gbufin") (λ n t. placed_words t n ∷ []) 0 c.first_eight-at-items.result.now c.loop-at.at-index _ c.loop-at.global (omega arith) c.loop-at.invariant.counted);
}
