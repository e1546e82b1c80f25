use Rattle.std.proofs.Common.{List, ap, ◌++◌, ◌∙◌}
use Rattle.std.specs.Prelude.{flat_map}
use Rattle.ice_base.specs.declared.number.RowNo.{RowNo}
use Rattle.ice_cells.specs.declared.cell.LogicCell.{LogicCell}
use Rattle.ice_place_defs.specs.Plan.{plan_in}
use Rattle.ice_emit.specs.Views.{rows_in}
use Rattle.ice_emit_settings.specs.Views.{switches}
use Rattle.ice_emit_defs.specs.Links.{all_links}
use Rattle.ice_emit.proofs.Wanting.{wanted_are}
use Rattle.ice_emit.proofs.writing.rows_of.Goals as goal

pub returns : goal.returns
returns c =
    let placed = c.args.placed.now in
    let parts = c.args.index.now.chip.now in
    let before = switches parts c.push_trees.new.rows.items in
    wanted_are parts (plan_in placed) c.args.trees.now c.push_trees.new.rows.items c.push_links.new.rows.items
    (c.in_ok-push_trees.ensures ∙ ap (λ (rows : List RowNo). rows ++ flat_map rows_in c.args.trees.now) c.new-rows.ensures.items)
    (c.in_ok-push_links.ensures ∙ ap (λ (cells : List LogicCell). before ++ all_links parts cells placed.tiles.now placed.clusters.now) c.cells.ensures)
