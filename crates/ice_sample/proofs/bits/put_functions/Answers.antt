use Rattle.std.proofs.Common.{◌++◌, decimal, refl, arith}
use Rattle.ice_sample.specs.Bits.{columns_of, TileFunction, function_row}
use Rattle.ice_base.proofs.Pieces.{further}
use Rattle.ice_sample.proofs.Numbering.{series_more, nothing_more}
use Rattle.ice_sample.proofs.bits.put_functions.Goals as goal

pub loop-number-preserved : goal.loop-number-preserved
loop-number-preserved c =
    let before = c.loop-number.invariant.counted in
    record {
      counted = omega arith;
      few = omega arith;
      written = further _ _ _ _ _ _ c.loop-number.invariant.written c.in_ok-put_numbered_function.ensures
          (series_more (λ (f : TileFunction). f.size) (function_row (columns_of c.args.kind)) c.args.first (λ k. record { title = c.args.title.now ++ decimal k; size = c.args.size }) c.args.size c.loop-number.number c.loop-number.bit (λ j. refl) before);
    }

pub loop-number-init : goal.loop-number-init
loop-number-init c = record { counted = omega arith; few = omega arith; written = nothing_more c.args.text.now.items }
