use Rattle.std.proofs.Common.{[], All, List, Some, ap, arith, subst, sym, ◌∙◌}
use Rattle.std.proofs.lemmas.List.Elements.{All-pop, All-push}
use Rattle.ice_words.specs.Views.{with_worker, worker_view}
use Rattle.ice_worker.specs.declared.kit.Kit.{Kit}
use Rattle.ice_worker.specs.Kits.{IsKitOf}
use Rattle.ice_negotiate_round.specs.declared.jobs.Job.{Job}
use Rattle.ice_negotiate_round.specs.Jobs.{IsWaiting, main_view}
use Rattle.ice_negotiate_round.proofs.jobs.jobs_of.Goals as goal

pub loop-kit-preserved : goal.loop-kit-preserved
loop-kit-preserved c =
    let board = c.args.words.now in
    let P : Kit → Type 0 = IsKitOf c.args.graph.now in
    let Q : Job → Type 0 = IsWaiting c.args.graph.now board in
    let t = All-pop P c.loop-kit.kits.items c.pop.new.self.items (Some c.in-Some.kit) c.in-Some.ensures.items c.loop-kit.invariant.kits in
    record {
      of = c.split.ensures.of.0;
      main = c.split.ensures.view ∙ (ap with_worker c.loop-kit.invariant.main ∙ ap (λ k. main_view board k k []) (sym c.in_ok-push.ensures.len));
      many = omega (arith, c.in_ok-push.ensures.len, c.in-Some.ensures.len, c.loop-kit.invariant.many);
      jobs = subst (λ (js : List Job). All Q js) (sym c.in_ok-push.ensures.items) (All-push Q c.loop-kit.jobs.items _ c.loop-kit.invariant.jobs (record { of = c.split.ensures.of.1; view = c.split.ensures.new ∙ ap worker_view c.loop-kit.invariant.main; kit = t.1 }));
      kits = t.0;
    }
