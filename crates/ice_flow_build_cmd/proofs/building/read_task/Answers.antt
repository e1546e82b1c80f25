use Rattle.std.proofs.Common.{◌∷◌}
use Rattle.ice_chip_read.specs.Whole.{chip_says}
use Rattle.ice_flow_frame.proofs.Standings.{chip_fault_is}
use Rattle.ice_flow_build_cmd.proofs.Refusing.{chip_unread, pcf_unread}
use Rattle.ice_flow_build_cmd.proofs.building.read_task.Goals as goal

pub returns-in-Err-clause-refused : goal.returns-in-Err-clause-refused
returns-in-Err-clause-refused c = λ b chip_text stands.
    let fault = c.in-Err.fault in
    chip_unread b (chip_text ∷ c.args.texts.now) fault c.chip_refusal.result (λ known. chip_fault_is fault (chip_says chip_text) (c.in-Err.ensures.chip chip_text stands) known) c.chip_refusal.ensures

pub returns-in-Err-read_pcf-clause-refused : goal.returns-in-Err-read_pcf-clause-refused
returns-in-Err-read_pcf-clause-refused c = λ b chip_text stands.
    pcf_unread b (chip_text ∷ c.args.texts.now) c.in-Ok.chip c.in-Err-read_pcf.fault c.pcf_refusal.result (c.in-Ok.ensures.chip chip_text stands) (rw c.at.ensures at c.in-Err-read_pcf.ensures) c.pcf_refusal.ensures

pub returns-in-Ok-read_net-clause-task : goal.returns-in-Ok-read_net-clause-task
returns-in-Ok-read_net-clause-task c = λ name chip_text stands.
    c.in-Ok-read_net.ensures.task name chip_text c.in-Ok-read_pcf.pcf (record { is_chip = c.in-Ok.ensures.chip chip_text stands; are_constraints = rw c.at.ensures at c.in-Ok-read_pcf.ensures })

pub returns-in-Err-read_net-clause-refused : goal.returns-in-Err-read_net-clause-refused
returns-in-Err-read_net-clause-refused c = λ b chip_text stands.
    c.in-Err-read_net.ensures.refused b chip_text c.in-Ok-read_pcf.pcf (record { is_chip = c.in-Ok.ensures.chip chip_text stands; are_constraints = rw c.at.ensures at c.in-Ok-read_pcf.ensures })
