use Rattle.std.proofs.Common.{refl}
use Rattle.ice_base.specs.declared.number.WireNo.{WireNo}
use Rattle.ice_core.proofs.Moving.{wire_at}
use Rattle.ice_core.proofs.rounds.count.Goals as goal

pub loop-wire-preserved : goal.loop-wire-preserved
loop-wire-preserved c =
    let none : WireNo = record { 0 = 0 } in
    c.count_one.ensures c.args.seen.now c.args.wires.now c.loop-wire.wire-index _ (wire_at c.args.wires.now c.loop-wire.wire-index none c.loop-wire-test.true) refl c.loop-wire.invariant
