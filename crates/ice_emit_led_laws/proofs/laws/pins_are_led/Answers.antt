use Rattle.ice_place_defs.specs.Plan.{listed}
use Rattle.ice_emit_led_laws.proofs.Pinned.{pins_led}
use Rattle.ice_emit_led_laws.proofs.laws.pins_are_led.Goals as goal

pub returns : goal.returns
returns c parts rows plan pullups routes chip placed trees =
    pins_led parts rows plan pullups (record {
      placed = placed;
      read = chip.read;
      lawful = c.lookups_are_lawful.ensures parts chip;
      names = c.wire_names_are_read.ensures;
      slots = c.cells_stand_in_one_slot.ensures plan.design (listed plan) placed.formed placed.clusters;
      chunks = c.runs_stand_in_chunks.ensures plan.design (listed plan) placed.formed placed.clusters;
    }) routes trees
