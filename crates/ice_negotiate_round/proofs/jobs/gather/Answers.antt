use Rattle.std.proofs.Common.{◌≡◌, ◌+◌, Some, vec_len, ap, arith, ◌∙◌}
use Rattle.std.proofs.lemmas.List.Elements.{All-pop}
use Rattle.ice_negotiate_round.specs.declared.jobs.Job.{Job}
use Rattle.ice_negotiate_round.specs.Jobs.{HasWorked, main_view}
use Rattle.ice_negotiate_round.specs.Played.{parts_of}
use Rattle.ice_negotiate_round.proofs.jobs.gather.Goals as goal

pub take_in-requires-clause-job : goal.take_in-requires-clause-job
take_in-requires-clause-job c =
    let P : Job → Type 0 = HasWorked c.args.graph.now c.args.prices.now c.args.tasks.now c.args.words.now in
    let t = All-pop P c.loop-job.jobs.items c.pop.new.self.items (Some c.in-Some.job) c.in-Some.ensures.items c.loop-job.invariant.jobs in
    t.1

pub loop-job-preserved : goal.loop-job-preserved
loop-job-preserved c =
    let P : Job → Type 0 = HasWorked c.args.graph.now c.args.prices.now c.args.tasks.now c.args.words.now in
    let t = All-pop P c.loop-job.jobs.items c.pop.new.self.items (Some c.in-Some.job) c.in-Some.ensures.items c.loop-job.invariant.jobs in
    let fewer : vec_len c.loop-job.jobs ≡ vec_len c.pop.new.self + 1 = omega (arith, c.in-Some.ensures.len) in
    record {
      of = c.take_in.ensures.of;
      view = c.take_in.ensures.view (vec_len c.args.jobs) (vec_len c.pop.new.self) (c.loop-job.invariant.view ∙ ap (λ k. main_view c.args.words.now (vec_len c.args.jobs) k (parts_of c.args.words.now.olds c.loop-job.dones.items)) fewer);
      jobs = t.0;
      dones = c.take_in.ensures.dones;
      many = omega (arith, c.take_in.ensures.len, fewer, c.loop-job.invariant.many);
      room = omega (arith, c.take_in.ensures.room, c.loop-job.invariant.room);
    }
