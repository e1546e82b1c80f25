use Rattle.std.proofs.Common.{sym, ◌∙◌, arith}
use Rattle.ice_bits_rows.proofs.Values.{passed, none}
use Rattle.ice_bits_rows.proofs.rows.value_at.Goals as goal

pub loop-k-preserved : goal.loop-k-preserved
loop-k-preserved c =
    c.loop-k.invariant
    ∙ passed c.args.bits.now c.args.values.now c.args.bit c.loop-k.k _ _ (omega (arith, c.min-k-end.ensures, c.loop-k-test.true)) (omega (arith, c.min-k-end.ensures, c.loop-k-test.true)) c.if-is_one_at.ensures

pub returns : goal.returns
returns c = sym (c.loop-k.invariant ∙ none c.args.bits.now c.args.values.now c.args.bit c.loop-k.k (omega (arith, c.min-k-end.ensures, c.loop-k-test.false)))
