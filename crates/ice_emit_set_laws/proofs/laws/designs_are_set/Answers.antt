use Rattle.ice_emit_set_laws.proofs.DesignSet.{known_by, design_set, no_groups_set}
use Rattle.ice_emit_set_laws.proofs.laws.designs_are_set.Goals as goal

pub returns-clause-apart : goal.returns-clause-apart
returns-clause-apart c rows plan pullups rams held wanted placed =
    let known = known_by c.args.chip.now c.enables.result.now.entries c.enables.ensures.enables c.enables.ensures.found c.is_chip.ensures c.chip_is_lawful.ensures c.function_names_are_read.ensures c.cells_stand_in_one_slot.ensures in
    no_groups_set c.args.chip.now known rows plan pullups rams placed held wanted

pub returns-clause-set : goal.returns-clause-set
returns-clause-set c rows plan pullups rams held wanted placed formed are =
    let known = known_by c.args.chip.now c.enables.result.now.entries c.enables.ensures.enables c.enables.ensures.found c.is_chip.ensures c.chip_is_lawful.ensures c.function_names_are_read.ensures c.cells_stand_in_one_slot.ensures in
    design_set c.args.chip.now known rows plan pullups rams placed held wanted formed are
