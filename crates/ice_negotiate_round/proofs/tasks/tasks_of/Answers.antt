use Rattle.std.proofs.Common.{◌<◌, List, length, get_or, arith, refl, sym, subst}
use Rattle.std.proofs.lemmas.List.{take_all}
use Rattle.std.proofs.lemmas.Option.{slice_get_read, slice_get-get_or}
use Rattle.ice_base.specs.declared.number.NetNo.{NetNo}
use Rattle.ice_negotiate_round.specs.Moving.{AreTasksOf}
use Rattle.ice_negotiate_round.proofs.Listing.{tasks_none, tasks_more}
use Rattle.ice_negotiate_round.proofs.tasks.tasks_of.Goals as goal

pub loop-number-init : goal.loop-number-init
loop-number-init c = tasks_none c.args.nets.now c.args.trees.now c.in_ok-tasks.tasks.items c.in_ok-tasks.ensures.items

pub bounds-nets-place : goal.bounds-nets-place
bounds-nets-place c =
    let moved = c.args.moved.now in
    let i = c.loop-number.number-index in
    c.requires.within i (get_or moved i (record { 0 = 0 })) (slice_get-get_or moved i (record { 0 = 0 }) c.loop-number-test.true)

pub bounds-trees-place : goal.bounds-trees-place
bounds-trees-place c =
    let moved = c.args.moved.now in
    let i = c.loop-number.number-index in
    let number : NetNo = get_or moved i (record { 0 = 0 }) in
    subst (λ n. number.0 < n) (sym c.requires.long) (c.requires.within i number (slice_get-get_or moved i (record { 0 = 0 }) c.loop-number-test.true))

pub returns : goal.returns
returns c =
    subst (λ (moved : List NetNo). AreTasksOf c.args.nets.now c.args.trees.now moved c.loop-number.tasks.items) (take_all c.loop-number.number-index c.args.moved.now c.loop-number-test.false) c.loop-number.invariant

pub loop-number-preserved : goal.loop-number-preserved
loop-number-preserved c =
    let moved = c.args.moved.now in
    let nets = c.args.nets.now in
    let trees = c.args.trees.now in
    let i = c.loop-number.number-index in
    let number = get_or moved i (record { 0 = 0 }) in
    let lt : i < length moved = omega (arith, c.loop-number-test.true) in
    let within : number.0 < length nets = c.requires.within i number (slice_get-get_or moved i (record { 0 = 0 }) lt) in
    tasks_more nets trees moved c.loop-number.tasks.items c.push.new.self.items i (record { 0 = 0 }) c.index-nets-place.result c.index-trees-place.result c.in_ok-task.task lt
    (slice_get_read nets (length nets) number.0 c.index-nets-place.result refl within c.index-nets-place.is)
    (slice_get_read trees (length trees) number.0 c.index-trees-place.result refl (omega (arith, within, c.requires.long)) c.index-trees-place.is)
    c.in_ok-task.ensures c.in_ok-push.ensures.items c.loop-number.invariant
