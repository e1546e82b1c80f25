use Rattle.std.proofs.Common.{◌++◌, ◌∷◌, [], codes, decimal, arith}
use Rattle.ice_sample.specs.Lines.{binary}
use Rattle.ice_base.proofs.Pieces.{further}
use Rattle.ice_sample.proofs.Numbering.{row_after, nothing_more}
use Rattle.ice_sample.proofs.groups.put_sources.Goals as goal

pub loop-source-init : goal.loop-source-init
loop-source-init c = record { counted = omega arith; written = nothing_more c.args.text.now.items }

pub loop-source-preserved : goal.loop-source-preserved
loop-source-preserved c =
    let before = c.loop-source.invariant.counted in
    record {
      counted = omega arith;
      written = further _ _ _ _ _ _ c.loop-source.invariant.written c.in_ok-put_source.ensures
          (row_after (λ v source. (binary c.args.size v ++ codes " " ++ decimal source) ∷ []) 1 c.args.sources.now c.loop-source.source-index _ c.loop-source.value (omega arith) before);
    }
