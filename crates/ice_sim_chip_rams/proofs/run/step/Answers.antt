use Rattle.std.proofs.Common.{ap, ◌∙◌}
use Rattle.ice_bits.specs.Configuration.{bits_of}
use Rattle.ice_decode.specs.Meaning.{chip_step}
use Rattle.ice_ram.specs.Ports.{after_all}
use Rattle.ice_sim.specs.ChipRuns.{with_state}
use Rattle.ice_sim_chip_rams.specs.ClosedChips.{closed_step}
use Rattle.ice_sim_chip_rams.proofs.run.step.Goals as goal

pub returns-clause-run : goal.returns-clause-run
unfolding closed_step
returns-clause-run c =
    let r = c.args.run.now in
    c.step.ensures.run ∙ ap (λ levels. with_state r (chip_step r.parts (bits_of r.configuration) r.configuration.extras r.bonded r.bonded r.state levels).0) c.join_levels.ensures

pub returns-clause-rams : goal.returns-clause-rams
unfolding closed_step
returns-clause-rams c =
    let r = c.args.run.now in
    c.step_all.ensures
    ∙ ap (λ drives. after_all drives c.args.first c.args.rams.now)
    (c.step.ensures.out ∙ ap (λ levels. (chip_step r.parts (bits_of r.configuration) r.configuration.extras r.bonded r.bonded r.state levels).1) c.join_levels.ensures)

pub returns-clause-drives : goal.returns-clause-drives
unfolding closed_step
returns-clause-drives c =
    let r = c.args.run.now in
    c.step.ensures.out ∙ ap (λ levels. (chip_step r.parts (bits_of r.configuration) r.configuration.extras r.bonded r.bonded r.state levels).1) c.join_levels.ensures
