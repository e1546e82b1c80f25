use Rattle.std.proofs.Common.{◌<◌, length, false, take, get_or, sym, ap, subst, arith, ◌∙◌}
use Rattle.ice_base.specs.declared.number.WireNo.{WireNo}
use Rattle.ice_core.specs.Routes.{numbers}
use Rattle.ice_negotiate_defs.proofs.Leaving.{wire_below}
use Rattle.ice_words.specs.declared.view.View.{View}
use Rattle.ice_words.specs.Views.{own, with_own, posted}
use Rattle.ice_words.specs.Rule.{MayHold}
use Rattle.ice_worker.specs.Work.{changing, held_as}
use Rattle.ice_worker.proofs.Stepping.{hold_may, hold_more, hold_none, ended_as, take_numbers}
use Rattle.ice_worker.proofs.steps.hold_all.Goals as goal

abbrev none : WireNo
none = record { 0 = 0 }

pub hold-requires-clause-may : goal.hold-requires-clause-may
hold-requires-clause-may c =
    let i = c.loop-wire.wire-index in
    subst (λ (v : View). MayHold v.olds (own v).claims c.args.task (get_or c.args.wires.now i none).0) (sym c.loop-wire.invariant.view)
    (hold_may c.args.task c.args.hand.now.view c.args.wires.now i none c.loop-wire-test.true c.requires.ready c.requires.once)

pub loop-wire-preserved : goal.loop-wire-preserved
loop-wire-preserved c = record {
  of = c.hold.ensures.of;
  view = hold_more c.args.task c.args.hand.now.view c.args.wires.now c.loop-wire.wire-index none c.loop-wire-test.true c.hold.ensures.view.0 c.loop-wire.hand.view c.hold.new.hand.view c.loop-wire.invariant.view c.hold.ensures.view.2;
}

pub returns-clause-view : goal.returns-clause-view
returns-clause-view c = c.loop-wire.invariant.view ∙ ap (λ ws. posted (with_own (changing (held_as ws)) c.args.hand.now.view)) (take_numbers c.args.wires.now c.loop-wire.wire-index (omega arith))

pub loop-wire-init : goal.loop-wire-init
loop-wire-init c = record { of = c.requires.of; view = ap posted (hold_none c.args.task c.args.hand.now.view c.requires.ready) }

pub hold-requires-clause-going : goal.hold-requires-clause-going
hold-requires-clause-going c = ended_as (held_as (take c.loop-wire.wire-index (numbers c.args.wires.now))) c.loop-wire.hand.view c.args.hand.now.view false c.loop-wire.invariant.view c.requires.going

pub hold-requires-clause-wire : goal.hold-requires-clause-wire
hold-requires-clause-wire c = subst (λ (v : View). (get_or c.args.wires.now c.loop-wire.wire-index none).0 < length v.counts) (sym c.loop-wire.invariant.view) (wire_below (length c.args.hand.now.view.counts) c.args.wires.now c.loop-wire.wire-index none c.requires.within c.loop-wire-test.true)
