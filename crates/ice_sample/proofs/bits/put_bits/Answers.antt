use Rattle.std.proofs.Common.{◌+◌, sym}
use Rattle.ice_sample.specs.Bits.{bit_word}
use Rattle.ice_sample.proofs.Counting.{flat_map_range_more}
use Rattle.ice_base.proofs.Pieces.{further}
use Rattle.ice_sample.proofs.bits.put_bits.Goals as goal

pub loop-bit-preserved : goal.loop-bit-preserved
loop-bit-preserved c =
    further _ _ _ _ _ _ c.loop-bit.invariant c.in_ok-put_bit.ensures
    (sym (flat_map_range_more (λ k. bit_word c.columns_of-columns.result (c.args.first + k)) c.loop-bit.bit))
