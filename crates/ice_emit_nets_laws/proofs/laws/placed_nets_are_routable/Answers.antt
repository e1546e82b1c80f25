use Rattle.ice_place_defs.specs.Plan.{listed}
use Rattle.ice_emit_nets_laws.proofs.Routable.{nets_are}
use Rattle.ice_emit_nets_laws.proofs.laws.placed_nets_are_routable.Goals as goal

pub returns : goal.returns
returns c parts rows plan pullups graph nets chip placed fabric bare =
    nets_are parts rows plan pullups (record {
      placed = placed;
      read = chip.read;
      lawful = c.lookups_are_lawful.ensures parts chip;
      names = c.wire_names_are_read.ensures;
      slots = c.cells_stand_in_one_slot.ensures plan.design (listed plan) placed.formed placed.clusters;
      chunks = c.runs_stand_in_chunks.ensures plan.design (listed plan) placed.formed placed.clusters;
    }) graph nets fabric bare
