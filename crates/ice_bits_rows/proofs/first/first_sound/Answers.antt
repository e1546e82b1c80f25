use Rattle.std.proofs.Common.{List, sym, ◌∙◌, subst, arith}
use Rattle.std.specs.Borrow.{Bor}
use Rattle.std.proofs.lemmas.List.{length-map, at_drop_all}
use Rattle.ice_chip.specs.Views.{row_view, group_view}
use Rattle.ice_chip.specs.declared.sections.Group.{Group}
use Rattle.ice_bits_rows.specs.FirstSound.{first_among}
use Rattle.ice_bits_rows.specs.Lists.{views}
use Rattle.ice_bits_rows.proofs.Passing.{group_passed}
use Rattle.ice_bits_rows.proofs.Known.{IsKnown, into_known}
use Rattle.ice_bits_rows.proofs.first.first_sound.Goals as goal

pub first_of-requires-clause-wires : goal.first_of-requires-clause-wires
first_of-requires-clause-wires c =
    (subst (λ g. IsKnown c.args.index.now.chip.now.wires (group_view g.now)) (sym c.group-item.is)
    (into_known c.args.index.now.chip.now c.args.target.0 c.groups_into-group-items.result.now c.loop-group.group-index c.group-item.result c.is_chip.ensures.read c.groups_into-group-items.ensures (omega arith))).wires_below

pub first_of-requires-clause-few : goal.first_of-requires-clause-few
first_of-requires-clause-few c =
    let known = subst (λ g. IsKnown c.args.index.now.chip.now.wires (group_view g.now)) (sym c.group-item.is)
    (into_known c.args.index.now.chip.now c.args.target.0 c.groups_into-group-items.result.now c.loop-group.group-index c.group-item.result c.is_chip.ensures.read c.groups_into-group-items.ensures (omega arith)) in
    rw (length-map c.group-item.result.now.rows.items row_view) at known.few

pub loop-group-preserved : goal.loop-group-preserved
loop-group-preserved c =
    c.loop-group.invariant
    ∙ group_passed c.args.index.now.chip.now c.args.source.0 c.groups_into-group-items.result.now c.loop-group.group-index c.group-item.result c.loop-group-test.true c.group-item.is c.in_default.ensures

pub returns : goal.returns
returns c =
    sym (c.loop-group.invariant
    ∙ at_drop_all (λ (gs : List (Bor Group)). first_among c.args.index.now.chip.now c.args.source.0 (views gs)) c.groups_into-group-items.result.now c.loop-group.group-index c.loop-group-test.false)
