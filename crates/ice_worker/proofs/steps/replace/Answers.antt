use Rattle.std.proofs.Common.{◌≡◌, length, false, sym, ap, subst, ◌∙◌}
use Rattle.ice_core.specs.Routes.{numbers}
use Rattle.ice_path.specs.Room.{AreWires}
use Rattle.ice_words.specs.declared.view.View.{View}
use Rattle.ice_words.specs.Views.{own, with_own, posted}
use Rattle.ice_worker.specs.Work.{changing, released_as, held_as, finished_as, IsReady}
use Rattle.ice_worker.proofs.Stepping.{both, ended_as, now_ready}
use Rattle.ice_worker.proofs.steps.replace.Goals as goal

pub hold_all-requires-clause-going : goal.hold_all-requires-clause-going
hold_all-requires-clause-going c = ended_as (released_as (numbers c.args.old.now)) c.release_all.new.hand.view c.args.hand.now.view false c.release_all.ensures.view c.requires.going

pub hold_all-requires-clause-within : goal.hold_all-requires-clause-within
hold_all-requires-clause-within c = subst (λ (v : View). AreWires (length v.counts) c.args.new.now) (sym c.release_all.ensures.view) c.requires.within_new

pub hold_all-requires-clause-ready : goal.hold_all-requires-clause-ready
hold_all-requires-clause-ready c = subst (λ (v : View). IsReady v.olds c.args.task (own v).claims) (sym c.release_all.ensures.view) (now_ready c.args.task c.args.hand.now.view (numbers c.args.old.now) c.requires.fresh c.requires.wires)

pub returns-clause-view : goal.returns-clause-view
returns-clause-view c = c.hold_all.ensures.view ∙ (ap (λ (v : View). with_own (changing (held_as (numbers c.args.new.now))) v) c.release_all.ensures.view ∙ ap posted (both c.args.hand.now.view (numbers c.args.old.now) (numbers c.args.new.now)))
