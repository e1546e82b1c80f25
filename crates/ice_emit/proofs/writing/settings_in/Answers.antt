use Rattle.std.proofs.Common.{length, map, ap, ◌∙◌}
use Rattle.ice_cells.specs.Tables.{table}
use Rattle.ice_graph.specs.Leading.{route_of}
use Rattle.ice_emit.specs.Routed.{owner_from}
use Rattle.ice_emit.proofs.Ready.{are_routed}
use Rattle.ice_emit.proofs.writing.settings_in.Goals as goal

pub settings_of-requires : goal.settings_of-requires
settings_of-requires c =
    are_routed (record { placed = c.args.placed.now; wires = record { ref_ptr = _; now = c.in_ok-wires.wires }; trees = c.args.trees; owners = c.as_slice.result }) c.args.pullups.now (length c.args.rams.now) c.cells_stand_in_one_slot.ensures c.requires.placed
    c.requires.trees c.in_ok-wires.ensures (c.as_slice.ensures.value ∙ c.in_ok-owners.ensures ∙ ap (table (owner_from 0 (map route_of c.args.trees.now))) c.wires.ensures.wires)
