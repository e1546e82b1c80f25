use Rattle.ice_place_defs.specs.Plan.{listed}
use Rattle.ice_emit_nets_laws.proofs.Few.{nets_are_few}
use Rattle.ice_emit_nets_laws.proofs.laws.placed_nets_are_few.Goals as goal

pub returns : goal.returns
returns c parts rows plan pullups all chip placed each =
    nets_are_few parts rows plan pullups (record {
      placed = placed;
      read = chip.read;
      lawful = c.lookups_are_lawful.ensures parts chip;
      names = c.wire_names_are_read.ensures;
      slots = c.cells_stand_in_one_slot.ensures plan.design (listed plan) placed.formed placed.clusters;
      chunks = c.runs_stand_in_chunks.ensures plan.design (listed plan) placed.formed placed.clusters;
    }) all each
