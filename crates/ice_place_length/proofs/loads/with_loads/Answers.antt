use Rattle.std.proofs.Common.{◌≡◌, ◌++◌, List, ap, ◌∙◌}
use Rattle.ice_cells.specs.declared.cell.LogicCell.{LogicCell}
use Rattle.ice_place_defs.specs.Loads.{pads_loads, fed_roots, globals_loads, clusters_give, cell_loads, control_loads}
use Rattle.ice_place_length.specs.Grown.{box_in, grown}
use Rattle.ice_place_length.proofs.Growing.{then_grown}
use Rattle.ice_place_length.proofs.loads.with_loads.Goals as goal

pub returns : goal.returns
returns c =
    let placed = c.args.placed.now in
    let d = placed.design.now in
    let root = c.args.root in
    let pads = pads_loads placed.ports.now d.pads in
    let globals = globals_loads placed.chip.now placed.globals.now (fed_roots placed.direct.now d.globals) in
    let clusters = clusters_give cell_loads control_loads d.cells placed.tiles.now placed.clusters.now in
    then_grown root (box_in c.args.span) (box_in c.with_globals-span.result) (box_in c.with_clusters.result) (pads ++ globals) clusters
    (then_grown root (box_in c.args.span) (box_in c.with_pads-span.result) (box_in c.with_globals-span.result) pads globals (c.with_pads-span.ensures ∙ ap (λ l. grown root (box_in c.args.span) (pads_loads placed.ports.now l)) c.pads.ensures)
    (c.with_globals-span.ensures ∙ ap (λ l. grown root (box_in c.with_pads-span.result) (globals_loads placed.chip.now placed.globals.now (fed_roots placed.direct.now l))) c.globals.ensures))
    (c.with_clusters.ensures ∙ ap (λ (l : List LogicCell). grown root (box_in c.with_globals-span.result) (clusters_give cell_loads control_loads l placed.tiles.now placed.clusters.now)) c.cells.ensures)
