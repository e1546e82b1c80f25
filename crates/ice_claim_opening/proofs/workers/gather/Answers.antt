use Rattle.std.proofs.Common.{◌≡◌, ◌+◌, ◌++◌, Some, vec_len, inr, arith, subst, ap, ◌∙◌}
use Rattle.std.proofs.lemmas.List.Elements.{All-pop}
use Rattle.ice_claim_opening.specs.declared.workers.Job.{Job}
use Rattle.ice_claim_opening.specs.Workers.{HasWorked, IsGathered}
use Rattle.ice_claim_opening.proofs.Gathering.{ends_more, gathered_more}
use Rattle.ice_claim_opening.proofs.workers.gather.Goals as goal

pub loop-job-preserved : goal.loop-job-preserved
loop-job-preserved c =
    let P : Job → Type 0 = HasWorked c.args.table.now in
    let before = c.loop-job.invariant in
    let t = All-pop P c.loop-job.jobs.items c.pop.new.self.items (Some c.in-Some.job) c.in-Some.ensures.items before.jobs in
    let fewer : vec_len c.loop-job.jobs ≡ vec_len c.pop.new.self + 1 = omega (arith, c.in-Some.ensures.len) in
    let lists = c.args.table.now.lists in
    record {
      of = c.join.ensures.of;
      gathered = gathered_more lists (vec_len c.pop.new.self) c.loop-job.main.view c.in-Some.job.pass.view c.join.new.pass.view c.loop-job.notes.items c.in-Some.job.notes.items c.extend_from_slice.new.self.items
          (subst (λ n. IsGathered lists n c.loop-job.main.view c.loop-job.notes.items) fewer before.gathered) t.1.notes c.join.ensures.view (c.in_ok-extend_from_slice.ensures.items ∙ ap (λ ys. c.loop-job.notes.items ++ ys) c.deref.ensures.value);
      jobs = t.0;
      ended = inr (ends_more c.loop-job.main.view c.in-Some.job.pass.view c.join.new.pass.view c.join.ensures.view t.1.ended);
    }
