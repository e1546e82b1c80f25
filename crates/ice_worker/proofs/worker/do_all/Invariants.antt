use Rattle.std.proofs.Common.{◌≡◌, ◌-◌, All, length}
use Rattle.ice_words.specs.Views.{posted}
use Rattle.ice_words.specs.Grips.{IsHandOf}
use Rattle.ice_worker.specs.Kits.{Falls, IsBegun, claims_of, made_by, with_claims, next_of}
use Rattle.ice_worker.specs.Tasks.{IsMade}
use Rattle.ice_worker.proofs.worker.do_all.Given as goal

abbrev pub invariant-loop-number : goal.invariant-loop-number
invariant-loop-number g l = record {
  of : IsHandOf l.words l.hand;
  view : posted l.hand.view ≡ posted (with_claims (claims_of l.fn.hand.view.olds (made_by l.kit)) l.fn.hand.view);
  made : All (IsMade l.graph l.prices l.tasks) (made_by l.kit);
  falls : Falls (claims_of l.fn.hand.view.olds (made_by l.kit));
  kit : IsBegun l.graph l.prices l.kit;
}

abbrev pub decreases-loop-number : goal.decreases-loop-number
decreases-loop-number g l = length l.tasks - next_of (claims_of l.fn.hand.view.olds (made_by l.kit))
