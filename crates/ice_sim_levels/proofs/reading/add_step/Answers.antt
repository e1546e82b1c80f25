use Rattle.std.proofs.Common.{length, arith}
use Rattle.ice_sim_levels.proofs.Digits.{step_said, step_long}
use Rattle.ice_sim_levels.proofs.StepLists.{steps_few}
use Rattle.ice_sim_levels.proofs.reading.add_step.Goals as goal

pub returns-clause-step : goal.returns-clause-step
returns-clause-step c =
    step_said c.args.ports c.args.count c.args.levels.now.items c.add_digits.new.levels.items c.args.word.now c.in_ok-all.all c.requires (omega arith) (omega arith) c.in_ok-all.ensures

pub returns-clause-long : goal.returns-clause-long
returns-clause-long c = λ yes.
    step_long c.args.ports c.args.count c.args.levels.now.items c.add_digits.new.levels.items c.args.word.now c.requires (omega arith) (rw yes at c.in_ok-all.ensures)

pub returns-clause-few : goal.returns-clause-few
returns-clause-few c = λ yes. steps_few c.args.ports c.args.count (length c.args.levels.now.items) c.requires (omega arith)
