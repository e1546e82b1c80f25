use Rattle.std.proofs.Common.{◌≡◌, ◌+◌, ℕ, All, length, vec_len}
use Rattle.ice_worker.specs.Tasks.{IsMade}
use Rattle.ice_negotiate_round.specs.Played.{Covers, made_at}
use Rattle.ice_negotiate_round.proofs.placing.place_some.Given as goal

abbrev pub invariant-loop-made : goal.invariant-loop-made
invariant-loop-made l = record {
  long : length l.news ≡ length l.fn.news;
  made : All (IsMade l.graph l.prices l.tasks) l.trees.items;
  covers : (wanted : ℕ → ℕ) → Covers l.graph l.prices l.tasks (λ t. made_at t l.fn.trees.items + wanted t) l.fn.news → Covers l.graph l.prices l.tasks (λ t. made_at t l.trees.items + wanted t) l.news;
}

abbrev pub decreases-loop-made : goal.decreases-loop-made
decreases-loop-made l = vec_len l.trees
