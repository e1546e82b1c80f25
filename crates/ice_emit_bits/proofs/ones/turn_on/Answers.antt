use Rattle.std.proofs.Common.{List, length, ap, sym, subst, ◌∙◌}
use Rattle.ice_base.specs.declared.bit.BitAt.{BitAt}
use Rattle.ice_base_values.specs.Order.{Has}
use Rattle.ice_chip.specs.Views.{group_view, row_view}
use Rattle.ice_emit_bits.proofs.Placing.{group_bits_there, group_values_fit}
use Rattle.ice_emit_bits.proofs.ones.turn_on.Goals as goal

pub set_ones-requires-clause-places : goal.set_ones-requires-clause-places
set_ones-requires-clause-places c = λ b has.
    group_bits_there c.args.chip.now c.chip_is_lawful.ensures.groups c.args.row.0 (group_view c.row.result.0.now) (row_view c.row.result.1.now) c.chip_is_lawful.ensures.rows c.row.ensures b
    (subst (λ (ps : List BitAt). Has ps b) c.deref.ensures has)

pub set_ones-requires-clause-paired : goal.set_ones-requires-clause-paired
set_ones-requires-clause-paired c =
    ap length c.deref-2.ensures
    ∙ group_values_fit c.args.chip.now c.chip_is_lawful.ensures.groups c.args.row.0 (group_view c.row.result.0.now) (row_view c.row.result.1.now) c.chip_is_lawful.ensures.rows c.row.ensures
    ∙ ap length (sym c.deref.ensures)
