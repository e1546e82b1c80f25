use Rattle.std.proofs.Common.{List, map, refl, sym, subst, arith}
use Rattle.std.specs.List.{Contains}
use Rattle.std.proofs.lemmas.List.{length-map}
use Rattle.ice_chip.specs.Views.{row_view, group_view}
use Rattle.ice_bits_rows.proofs.Known.{IsKnown, group_known, group_there}
use Rattle.ice_chip.specs.declared.sections.Group.{Group}
use Rattle.ice_fabric.specs.Edges.{edges_from, places_from}
use Rattle.ice_fabric.proofs.GroupRows.{next_piece}
use Rattle.ice_fabric.proofs.usable.usable_rows.Goals as goal

pub add_group-requires-clause-wires : goal.add_group-requires-clause-wires
add_group-requires-clause-wires c =
    (subst (λ g. IsKnown c.args.index.now.chip.now.wires (group_view g)) (sym c.group-item.is)
    (group_known c.args.index.now.chip.now c.groups-group-items.result.now c.loop-group.group-index c.group-item.result c.is_chip.ensures.read c.groups-group-items.ensures (omega arith))).wires_below

pub add_group-requires-clause-few : goal.add_group-requires-clause-few
add_group-requires-clause-few c =
    let known = subst (λ g. IsKnown c.args.index.now.chip.now.wires (group_view g)) (sym c.group-item.is)
    (group_known c.args.index.now.chip.now c.groups-group-items.result.now c.loop-group.group-index c.group-item.result c.is_chip.ensures.read c.groups-group-items.ensures (omega arith)) in
    rw (length-map c.group-item.result.rows.items row_view) at known.few

pub add_group-requires-clause-member : goal.add_group-requires-clause-member
add_group-requires-clause-member c =
    subst (λ g. Contains c.args.index.now.chip.now.groups (group_view g)) (sym c.group-item.is)
    (group_there c.args.index.now.chip.now c.groups-group-items.result.now c.loop-group.group-index c.group-item.result c.groups-group-items.ensures (omega arith))

pub loop-group-preserved : goal.loop-group-preserved
loop-group-preserved c =
    let groups = c.groups-group-items.result.now in
    let i = c.loop-group.group-index in
    record {
      edges = next_piece (λ (gs : List Group). edges_from c.args.index.now.chip.now (map group_view gs)) groups i c.group-item.result _ c.loop-group.edges.items c.add_group.new.edges.items _ c.loop-group-test.true c.group-item.is refl
          c.in_ok-add_group.ensures.edges c.loop-group.invariant.edges;
      places = next_piece (λ (gs : List Group). places_from c.args.index.now.chip.now (map group_view gs)) groups i c.group-item.result _ c.loop-group.places.items c.add_group.new.places.items _ c.loop-group-test.true c.group-item.is refl
          c.in_ok-add_group.ensures.places c.loop-group.invariant.places;
    }
