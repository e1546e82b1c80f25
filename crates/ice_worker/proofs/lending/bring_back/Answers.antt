use Rattle.std.proofs.Common.{◌<◌, length, get_or, sym, subst}
use Rattle.ice_base.specs.declared.number.WireNo.{WireNo}
use Rattle.ice_negotiate_defs.proofs.Leaving.{wire_below}
use Rattle.ice_worker.proofs.Leaving.{back_none, back_more, back_all}
use Rattle.ice_worker.proofs.lending.bring_back.Goals as goal

abbrev none : WireNo
none = record { 0 = 0 }

pub loop-wire-init : goal.loop-wire-init
loop-wire-init c = back_none c.args.counts.now c.args.others.now c.args.old.now c.requires.left

pub bounds-counts-wire : goal.bounds-counts-wire
bounds-counts-wire c = wire_below (length c.args.counts.now) c.args.old.now c.loop-wire.wire-index none c.requires.within c.loop-wire-test.true

pub bounds-others-wire : goal.bounds-others-wire
bounds-others-wire c =
    subst (λ n. (get_or c.args.old.now c.loop-wire.wire-index none).0 < n) (sym c.loop-wire.invariant.long)
    (wire_below (length c.args.counts.now) c.args.old.now c.loop-wire.wire-index none c.requires.within c.loop-wire-test.true)

pub loop-wire-preserved : goal.loop-wire-preserved
loop-wire-preserved c =
    let wires = c.args.old.now in
    let i = c.loop-wire.wire-index in
    back_more c.args.counts.now c.loop-wire.others wires i none c.loop-wire-test.true (wire_below (length c.args.counts.now) wires i none c.requires.within c.loop-wire-test.true) c.loop-wire.invariant

pub returns : goal.returns
returns c = back_all c.args.counts.now c.loop-wire.others c.args.old.now c.loop-wire.wire-index c.loop-wire-test.false c.loop-wire.invariant
