use Rattle.std.proofs.Common.{◌≡◌, ◌+◌, [], All, vec_len}
use Rattle.ice_words.specs.Grips.{IsHandOf}
use Rattle.ice_worker.specs.Kits.{IsKitOf}
use Rattle.ice_negotiate_round.specs.Jobs.{IsWaiting, main_view}
use Rattle.ice_negotiate_round.proofs.jobs.jobs_of.Given as goal

abbrev pub invariant-loop-kit : goal.invariant-loop-kit
invariant-loop-kit l = record {
  of : IsHandOf l.words l.main;
  main : l.main.view ≡ main_view l.words (vec_len l.jobs) (vec_len l.jobs) [];
  many : vec_len l.jobs + vec_len l.kits ≡ vec_len l.fn.kits;
  jobs : All (IsWaiting l.graph l.words) l.jobs.items;
  kits : All (IsKitOf l.graph) l.kits.items;
}

abbrev pub decreases-loop-kit : goal.decreases-loop-kit
decreases-loop-kit l = vec_len l.kits
