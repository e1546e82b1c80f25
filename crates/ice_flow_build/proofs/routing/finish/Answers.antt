use Rattle.std.proofs.Common.{[], sym, subst}
use Rattle.std.specs.Prelude.{IfOk}
use Rattle.ice_bits.specs.Configuration.{bits_of}
use Rattle.ice_decode.specs.Faults.{HasNoLoop}
use Rattle.ice_emit.specs.Placed.{IsPlacedOn}
use Rattle.ice_emit_defs.specs.Realised.{Realises}
use Rattle.ice_emit_defs.specs.Written.{wanted_rows}
use Rattle.ice_flow_build.specs.Answers.{routes_in}
use Rattle.ice_flow_build.specs.Laid.{plan_in}
use Rattle.ice_flow_build.specs.declared.answer.Layout.{Layout}
use Rattle.ice_flow_build.proofs.Finishing.{finished}
use Rattle.ice_flow_build.proofs.routing.finish.Goals as goal

pub write-requires-clause-placed : goal.write-requires-clause-placed
write-requires-clause-placed g c =
    subst (λ (layout : Layout). IsPlacedOn c.args.index.now.chip.now (plan_in layout) layout.pads.pullups 0) (sym c.in-Ok.ensures.routed.same) c.requires.placed

pub returns-in-Ok-clause-finished : goal.returns-in-Ok-clause-finished
returns-in-Ok-clause-finished g c =
    let e = c.write.ensures in
    finished c.args.index.now.chip.now c.args.effort c.args.layout c.in-Ok.made c.write.result c.in-Ok.ensures.routed e.layout e.kept e.routed e.written

pub returns-in-Ok-clause-realised : goal.returns-in-Ok-clause-realised
returns-in-Ok-clause-realised g c =
    let parts = c.args.index.now.chip.now in
    subst (λ (layout : Layout). IfOk c.write.result (λ built. HasNoLoop parts (bits_of built.bits) built.bits.extras
    → Realises parts (plan_in layout) [] (wanted_rows parts (plan_in layout) (routes_in built.routed)) (bits_of built.bits) built.bits.extras))
    c.in-Ok.ensures.routed.same c.write.ensures.realised
