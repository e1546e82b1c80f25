use Rattle.std.proofs.Common.{◌+◌, List, All, ap, arith, subst, sym, ◌∙◌}
use Rattle.std.proofs.lemmas.List.Elements.{All-push}
use Rattle.ice_claim.specs.declared.view.ClaimView.{ClaimView}
use Rattle.ice_claim_opening.specs.declared.workers.Job.{Job}
use Rattle.ice_claim_opening.specs.Workers.{IsWaiting}
use Rattle.ice_claim_opening.proofs.Gathering.{split_more}
use Rattle.ice_claim_opening.proofs.workers.jobs_of.Goals as goal

pub loop-worker-preserved : goal.loop-worker-preserved
loop-worker-preserved c =
    let before = c.loop-worker.invariant in
    let Q : Job → Type 0 = IsWaiting c.args.table.now in
    record {
      of = c.split.ensures.of.0;
      main = split_more c.loop-worker.worker c.loop-worker.main.view c.split.new.pass.view before.main c.split.ensures.view;
      many = c.in_ok-push.ensures.len ∙ ap (λ n. n + 1) before.many;
      jobs = subst (λ (js : List Job). All Q js) (sym c.in_ok-push.ensures.items) (All-push Q c.loop-worker.jobs.items _ before.jobs (record {
        of = c.split.ensures.of.1;
        worker = ap (λ (v : ClaimView). v.worker) c.split.ensures.new;
        fresh = ap (λ (v : ClaimView). v.parts) c.split.ensures.new;
        notes = c.in_ok-notes.ensures.items;
        room = omega (arith, c.in_ok-notes.ensures.capacity, c.requires.nets);
      }));
    }
