use Rattle.std.proofs.Common.{sym, ◌∙◌}
use Rattle.ice_chip.specs.Views.{row_view, group_view}
use Rattle.ice_bits_rows.specs.Sound.{sets}
use Rattle.ice_bits_rows.proofs.Values.{alike_passed, alike_all}
use Rattle.ice_bits_rows.proofs.rows.are_values.Goals as goal

pub loop-k-preserved : goal.loop-k-preserved
loop-k-preserved c =
    c.loop-k.invariant
    ∙ alike_passed (sets (group_view c.args.group.now) (row_view c.args.row.now) c.args.other.now.tile) c.args.values.now c.args.other.now.bits.items c.deref.result.now c.loop-k.k _ _ c.sets.result
    c.deref.ensures c.sets.ensures c.if-values-k.false c.loop-k-test.true (c.if-values-len.false ∙ c.len.ensures.value)

pub returns : goal.returns
returns c =
    sym (c.loop-k.invariant
    ∙ alike_all (sets (group_view c.args.group.now) (row_view c.args.row.now) c.args.other.now.tile) c.args.values.now c.args.other.now.bits.items c.loop-k.k c.loop-k-test.false
    (c.if-values-len.false ∙ c.len.ensures.value))
