use Rattle.std.proofs.Common.{◌≡◌, OnOk, IfErr, length, sym, ap, subst, ◌∙◌}
use Rattle.ice_words.specs.declared.view.Part.{Part}
use Rattle.ice_words.specs.declared.view.View.{View}
use Rattle.ice_words.specs.Views.{with_own, posted}
use Rattle.ice_worker.specs.Kits.{StopsAt, claims_of, done_part, made_by}
use Rattle.ice_worker.proofs.worker.work.Goals as goal

pub do_all-done-requires-clause-kit : goal.do_all-done-requires-clause-kit
do_all-done-requires-clause-kit g c = record { room = c.requires.kit.room; prices = c.begin.ensures }

pub returns-clause-done : goal.returns-clause-done
returns-clause-done g c =
    let v = c.args.hand.now.view in
    subst (λ (u : View). OnOk c.do_all-done.result (u ≡ posted (with_own (λ (p : Part). done_part (claims_of v.olds (made_by c.do_all-done.new.kit))) v))) (sym c.post.ensures.view) c.do_all-done.ensures.done

pub returns-clause-stop : goal.returns-clause-stop
returns-clause-stop g c = subst (λ (u : View). IfErr c.do_all-done.result (StopsAt c.args.graph.now c.args.tasks.now c.args.hand.now.view u (made_by c.do_all-done.new.kit))) (sym c.post.ensures.view) c.do_all-done.ensures.stop

pub returns-clause-kit : goal.returns-clause-kit
returns-clause-kit g c =
    let k = c.do_all-done.ensures.kit in
    record { room = k.room; histories = ap length k.prices.histories ∙ c.requires.playable.histories; others = ap length k.prices.others ∙ c.requires.playable.counts }
