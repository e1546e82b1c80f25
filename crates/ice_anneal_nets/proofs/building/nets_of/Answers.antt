use Rattle.std.proofs.Common.{◌++◌, ap, ◌∙◌, length}
use Rattle.std.specs.Prelude.{option_map, slice_get}
use Rattle.ice_cells.specs.Tables.{table}
use Rattle.ice_place_defs.specs.Plan.{plan_in}
use Rattle.ice_anneal_nets.specs.Nodes.{pad_node, holder, nodes_in}
use Rattle.ice_anneal_nets.specs.Sorted.{sorted_in, nets_by}
use Rattle.ice_anneal_nets.proofs.ByRoots.{nets_are}
use Rattle.ice_anneal_nets.proofs.building.nets_of.Goals as goal

pub returns : goal.returns
returns c =
    let placed = c.args.placed.now in
    let none = c.new-nets.result.items in
    let one = c.add_pads.new.nets.items in
    nets_are placed.chip.now (plan_in placed) (sorted_in c.in_ok-readers.readers) none one c.add_cells.new.nets.items c.in_ok-readers.ensures (ap nodes_in c.new-nets.ensures.items)
    (c.in_ok-add_pads.ensures ∙ ap (λ l. nodes_in none ++ nets_by (table (λ k. option_map pad_node (slice_get placed.ports.now k)) (length placed.ports.now)) l) c.as_slice.ensures.value)
    (c.in_ok-add_cells.ensures ∙ ap (λ l. nodes_in one ++ nets_by (table (holder 0 placed.clusters.now) (length placed.design.now.cells)) l) c.as_slice-2.ensures.value)
