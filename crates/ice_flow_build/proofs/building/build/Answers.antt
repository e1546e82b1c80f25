use Rattle.std.proofs.Common.{subst}
use Rattle.std.specs.Prelude.{IfOk, IfErr}
use Rattle.ice_chip.specs.Database.{Parts}
use Rattle.ice_flow_build.specs.Answers.{IsBuilt, IsFault, IsComplete}
use Rattle.ice_flow_build.specs.Laid.{task_of}
use Rattle.ice_flow_build.specs.Shown.{RealisesNetlist}
use Rattle.ice_flow_build.proofs.building.build.Goals as goal

-- the chip of the index is the one at hand
pub returns-in-Ok-clause-built : goal.returns-in-Ok-clause-built
returns-in-Ok-clause-built g c =
    subst (λ (parts : Parts). IfOk c.build_by.result (IsBuilt (task_of parts c.args.name.now c.args.pcf.now c.args.sound.now) c.args.effort)) c.in-Ok.ensures c.build_by.ensures.built

pub returns-in-Ok-clause-circuit : goal.returns-in-Ok-clause-circuit
returns-in-Ok-clause-circuit g c =
    subst (λ (parts : Parts). IfOk c.build_by.result (λ built. RealisesNetlist c.args.sound.now built.layout.pads.ports parts built.bits)) c.in-Ok.ensures c.build_by.ensures.circuit

pub returns-in-Ok-clause-fault : goal.returns-in-Ok-clause-fault
returns-in-Ok-clause-fault g c =
    subst (λ (parts : Parts). IfErr c.build_by.result (IsFault (task_of parts c.args.name.now c.args.pcf.now c.args.sound.now) c.args.effort)) c.in-Ok.ensures c.build_by.ensures.fault

pub returns-in-Ok-clause-complete : goal.returns-in-Ok-clause-complete
returns-in-Ok-clause-complete g c =
    subst (λ (parts : Parts). IsComplete (task_of parts c.args.name.now c.args.pcf.now c.args.sound.now) c.build_by.result) c.in-Ok.ensures c.build_by.ensures.complete
