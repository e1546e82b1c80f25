use Rattle.std.proofs.Common.{ap, ◌∙◌}
use Rattle.ice_net.specs.Meaning.{step}
use Rattle.ice_ram.specs.Ports.{after_all}
use Rattle.ice_sim_rams.specs.Closed.{closed_step}
use Rattle.ice_sim_rams.proofs.playing.step.Goals as goal

pub returns-clause-run : goal.returns-clause-run
unfolding closed_step
returns-clause-run c = c.step.ensures.run ∙ ap (λ levels. (c.args.run.now.0, (step c.args.run.now.0 c.args.run.now.1 levels).0)) c.join_levels.ensures

pub returns-clause-rams : goal.returns-clause-rams
unfolding closed_step
returns-clause-rams c =
    c.step_all.ensures
    ∙ ap (λ drives. after_all drives c.args.first c.args.rams.now) (c.step.ensures.out ∙ ap (λ levels. (step c.args.run.now.0 c.args.run.now.1 levels).1) c.join_levels.ensures)

pub returns-clause-drives : goal.returns-clause-drives
unfolding closed_step
returns-clause-drives c = c.step.ensures.out ∙ ap (λ levels. (step c.args.run.now.0 c.args.run.now.1 levels).1) c.join_levels.ensures
