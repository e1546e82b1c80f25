use Rattle.ice_place_defs.specs.Plan.{listed}
use Rattle.ice_emit_led_laws.proofs.Rows.{rows_led}
use Rattle.ice_emit_led_laws.proofs.laws.rows_lead_on_from_roots.Goals as goal

pub returns : goal.returns
returns c rows plan pullups routes placed trees =
    rows_led c.args.chip.now rows plan pullups (record {
      placed = placed;
      read = c.is_chip.ensures.read;
      lawful = c.chip_is_lawful.ensures;
      names = c.wire_names_are_read.ensures;
      slots = c.cells_stand_in_one_slot.ensures plan.design (listed plan) placed.formed placed.clusters;
      chunks = c.runs_stand_in_chunks.ensures plan.design (listed plan) placed.formed placed.clusters;
    }) routes trees
