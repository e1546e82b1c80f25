use Rattle.std.proofs.Common.{List, sym, ap, ◌∙◌, subst, arith}
use Rattle.std.specs.Borrow.{Bor}
use Rattle.std.specs.List.{list_any}
use Rattle.std.proofs.lemmas.List.{length-map, at_drop_all}
use Rattle.ice_chip.specs.Views.{row_view, group_view}
use Rattle.ice_chip.specs.declared.sections.Group.{Group}
use Rattle.ice_bits_rows.specs.Lists.{views}
use Rattle.ice_bits_rows.proofs.Known.{IsKnown, into_known}
use Rattle.ice_bits_rows.specs.FirstSound.{some_usable}
use Rattle.ice_bits_rows.proofs.first.is_joined.Goals as goal

pub has_usable-requires-clause-wires : goal.has_usable-requires-clause-wires
has_usable-requires-clause-wires c =
    (subst (λ g. IsKnown c.args.index.now.chip.now.wires (group_view g.now)) (sym c.group-item.is)
    (into_known c.args.index.now.chip.now c.args.target.0 c.groups_into-group-items.result.now c.loop-group.group-index c.group-item.result c.is_chip.ensures.read c.groups_into-group-items.ensures (omega arith))).wires_below

pub has_usable-requires-clause-few : goal.has_usable-requires-clause-few
has_usable-requires-clause-few c =
    let known = subst (λ g. IsKnown c.args.index.now.chip.now.wires (group_view g.now)) (sym c.group-item.is)
    (into_known c.args.index.now.chip.now c.args.target.0 c.groups_into-group-items.result.now c.loop-group.group-index c.group-item.result c.is_chip.ensures.read c.groups_into-group-items.ensures (omega arith)) in
    rw (length-map c.group-item.result.now.rows.items row_view) at known.few

pub loop-group-init : goal.loop-group-init
loop-group-init c = ap (list_any (λ g. some_usable c.args.index.now.chip.now c.args.source.0 g g.first g.rows)) (sym c.groups_into-group-items.ensures)

pub returns : goal.returns
returns c =
    sym (c.loop-group.invariant
    ∙ at_drop_all (λ (gs : List (Bor Group)). list_any (λ g. some_usable c.args.index.now.chip.now c.args.source.0 g g.first g.rows) (views gs)) c.groups_into-group-items.result.now c.loop-group.group-index
    c.loop-group-test.false)
