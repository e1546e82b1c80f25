use Rattle.std.proofs.Common.{refl}
use Rattle.ice_pads.specs.declared.given.Chosen.{Chosen}
use Rattle.ice_base.proofs.Pushed.{mapped_push}
use Rattle.ice_pads.proofs.assigning.pads_with.Goals as goal

pub loop-port-preserved : goal.loop-port-preserved
loop-port-preserved c = record {
  ports = mapped_push (λ (d : Chosen). d.pad) c.args.chosen.now c.loop-port.port-index _ _ c.loop-port.ports.items _ c.loop-port-test.true c.loop-port.invariant.ports c.in_ok-push.ensures.items refl;
  pullups = mapped_push (λ (d : Chosen). d.pullup) c.args.chosen.now c.loop-port.port-index _ _ c.loop-port.pullups.items _ c.loop-port-test.true c.loop-port.invariant.pullups c.in_ok-push-2.ensures.items refl;
}
