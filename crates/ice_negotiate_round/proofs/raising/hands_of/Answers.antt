use Rattle.std.proofs.Common.{◌+◌, List, All, sym, ap, subst, ◌∙◌}
use Rattle.std.proofs.lemmas.List.Elements.{All-push}
use Rattle.ice_words_histories.specs.Blocks.{with_worker, worker_view}
use Rattle.ice_words_histories.specs.Grips.{Grip}
use Rattle.ice_negotiate_round.specs.Raising.{IsIdle}
use Rattle.ice_negotiate_round.proofs.raising.hands_of.Goals as goal

pub loop-worker-preserved : goal.loop-worker-preserved
loop-worker-preserved c =
    let before = c.loop-worker.invariant in
    record {
      of = c.split.ensures.of.0;
      main = c.split.ensures.view ∙ ap with_worker before.main;
      many = c.in_ok-push.ensures.len ∙ ap (λ n. n + 1) before.many;
      hands = subst (λ (hands : List Grip). All (IsIdle c.args.words.now) hands) (sym c.in_ok-push.ensures.items)
          (All-push (IsIdle c.args.words.now) c.loop-worker.hands.items c.split.result before.hands (record { of = c.split.ensures.of.1; view = c.split.ensures.new ∙ ap worker_view before.main }));
    }
