use Rattle.std.proofs.Common.{◌<◌, length, false, take, get_or, sym, ap, subst, arith, ◌∙◌}
use Rattle.ice_base.specs.declared.number.WireNo.{WireNo}
use Rattle.ice_core.specs.Routes.{numbers}
use Rattle.ice_negotiate_defs.proofs.Leaving.{wire_below}
use Rattle.ice_words.specs.declared.view.View.{View}
use Rattle.ice_words.specs.Views.{own, with_own, posted}
use Rattle.ice_words.specs.Rule.{MayRelease}
use Rattle.ice_worker.specs.Work.{changing, released_as}
use Rattle.ice_worker.proofs.Stepping.{release_may, release_more, release_none, ended_as, take_numbers}
use Rattle.ice_worker.proofs.steps.release_all.Goals as goal

abbrev none : WireNo
none = record { 0 = 0 }

pub release-requires-clause-may : goal.release-requires-clause-may
release-requires-clause-may c =
    let i = c.loop-wire.wire-index in
    subst (λ (v : View). MayRelease v.olds (own v).claims c.args.task (get_or c.args.wires.now i none).0) (sym c.loop-wire.invariant.view)
    (release_may c.args.task c.args.hand.now.view c.args.wires.now i none c.loop-wire-test.true c.requires.new c.requires.wires)

pub loop-wire-preserved : goal.loop-wire-preserved
loop-wire-preserved c = record {
  of = c.release.ensures.of;
  view = release_more c.args.task c.args.hand.now.view c.args.wires.now c.loop-wire.wire-index none c.loop-wire-test.true c.release.ensures.view.0 c.loop-wire.hand.view c.release.new.hand.view c.loop-wire.invariant.view c.release.ensures.view.2;
}

pub returns-clause-view : goal.returns-clause-view
returns-clause-view c = c.loop-wire.invariant.view ∙ ap (λ ws. posted (with_own (changing (released_as ws)) c.args.hand.now.view)) (take_numbers c.args.wires.now c.loop-wire.wire-index (omega arith))

pub loop-wire-init : goal.loop-wire-init
loop-wire-init c = record { of = c.requires.of; view = ap posted (release_none c.args.task c.args.hand.now.view c.requires.new) }

pub release-requires-clause-going : goal.release-requires-clause-going
release-requires-clause-going c = ended_as (released_as (take c.loop-wire.wire-index (numbers c.args.wires.now))) c.loop-wire.hand.view c.args.hand.now.view false c.loop-wire.invariant.view c.requires.going

pub release-requires-clause-wire : goal.release-requires-clause-wire
release-requires-clause-wire c = subst (λ (v : View). (get_or c.args.wires.now c.loop-wire.wire-index none).0 < length v.counts) (sym c.loop-wire.invariant.view) (wire_below (length c.args.hand.now.view.counts) c.args.wires.now c.loop-wire.wire-index none c.requires.within c.loop-wire-test.true)
