use Rattle.std.proofs.Common.{sym, ◌∙◌}
use Rattle.std.specs.Bool.{beq}
use Rattle.ice_bits_rows.proofs.Alike.{passed, all}
use Rattle.ice_bits_rows.proofs.rows.are_alike.Goals as goal

pub loop-k-preserved : goal.loop-k-preserved
loop-k-preserved c = c.loop-k.invariant ∙ passed beq c.args.values.now c.args.others.now c.loop-k.k _ _ c.loop-k-test.true c.if-values-others.false c.if-values-k.false

pub returns : goal.returns
returns c = sym (c.loop-k.invariant ∙ all beq c.args.values.now c.args.others.now c.loop-k.k c.loop-k-test.false c.if-values-others.false)
