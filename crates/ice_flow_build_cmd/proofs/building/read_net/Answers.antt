use Rattle.std.proofs.Common.{◌∷◌}
use Rattle.ice_flow_build_cmd.proofs.Refusing.{task_read}
use Rattle.ice_flow_build_cmd.proofs.building.read_net.Goals as goal

pub returns-in-Err-clause-refused : goal.returns-in-Err-clause-refused
returns-in-Err-clause-refused c = λ b chip_text constraints read. c.in-Err.ensures.refused b chip_text c.args.chip.now constraints read

pub returns-in-Ok-prepare-clause-task : goal.returns-in-Ok-prepare-clause-task
returns-in-Ok-prepare-clause-task c = λ name chip_text constraints read.
    let e = c.can_be_prepared.ensures in
    task_read name (chip_text ∷ c.args.texts.now) c.args.chip.now constraints c.in-Ok.sound c.in-Ok-prepare.prepared read c.in-Ok.ensures.circuit e.sound e.formed e.room c.in-Ok-prepare.ensures.netlist

pub returns-in-Err-prepare-clause-refused : goal.returns-in-Err-prepare-clause-refused
returns-in-Err-prepare-clause-refused c = λ b chip_text constraints read. (tt, λ never. never)
