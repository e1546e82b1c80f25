use Rattle.std.proofs.Common.{◌≡◌, All, vec_len}
use Rattle.ice_claim.specs.Grips.{IsPassOf}
use Rattle.ice_claim_opening.specs.Workers.{IsSplit, IsWaiting}
use Rattle.ice_claim_opening.proofs.workers.jobs_of.Given as goal

abbrev pub invariant-loop-worker : goal.invariant-loop-worker
invariant-loop-worker l = record {
  of : IsPassOf l.table l.main;
  main : IsSplit l.worker l.main.view;
  many : vec_len l.jobs ≡ l.worker;
  jobs : All (IsWaiting l.table) l.jobs.items;
}
