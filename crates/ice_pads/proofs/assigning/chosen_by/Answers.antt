use Rattle.ice_pads.proofs.assigning.chosen_by.Goals as goal

pub choose_all-requires-clause-done : goal.choose_all-requires-clause-done
choose_all-requires-clause-done c = c.new-progress.ensures.done c.args.chip.now c.as_slice.result.now c.give_all.new.tables.given.items
