use Rattle.std.proofs.Common.{refl}
use Rattle.ice_flow_sample_cmd.specs.Standing.{BlifStands, StandsForSample}
use Rattle.ice_flow_frame.proofs.Refusing.{refusal_behind}
use Rattle.ice_flow_sample_cmd.proofs.Standing.{chip_so}
use Rattle.ice_flow_sample_cmd.proofs.texts.read_sample.Goals as goal

pub returns-in-Err-clause-refused : goal.returns-in-Err-clause-refused
returns-in-Err-clause-refused c = c.in-Err.ensures.refused c.args.number

pub returns-in-Ok-read_sample_net-clause-task : goal.returns-in-Ok-read_sample_net-clause-task
returns-in-Ok-read_sample_net-clause-task c =
    let net = c.in-Ok-read_sample_net.ensures in
    record { is_chip = c.in-Ok.ensures.chip; is_name = refl; no_constraints = refl; is_circuit = net.netlist; is_sound = net.sound; is_open = refl }

pub returns-in-Err-read_sample_net-clause-refused : goal.returns-in-Err-read_sample_net-clause-refused
returns-in-Err-read_sample_net-clause-refused c =
    let number = c.args.number in
    let parts = c.in-Ok.chip in
    refusal_behind (StandsForSample number) (BlifStands number parts) c.in-Err-read_sample_net.cause (λ cause m. chip_so number parts cause c.in-Ok.ensures.chip m)
    (c.in-Err-read_sample_net.ensures.refused parts)
