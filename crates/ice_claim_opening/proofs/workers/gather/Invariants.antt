use Rattle.std.proofs.Common.{◌≤◌, ◌⊎◌, All, vec_len}
use Rattle.ice_claim.specs.Claims.{total, ends_of}
use Rattle.ice_claim.specs.Grips.{IsPassOf}
use Rattle.ice_claim_opening.specs.Workers.{HasWorked, IsGathered}
use Rattle.ice_claim_opening.proofs.workers.gather.Given as goal

abbrev pub invariant-loop-job : goal.invariant-loop-job
invariant-loop-job l = record {
  of : IsPassOf l.table l.main;
  gathered : IsGathered l.table.lists (vec_len l.jobs) l.main.view l.notes.items;
  jobs : All (HasWorked l.table) l.jobs.items;
  ended : (1 ≤ vec_len l.jobs) ⊎ (1 ≤ total ends_of l.main.view);
}

abbrev pub decreases-loop-job : goal.decreases-loop-job
decreases-loop-job l = vec_len l.jobs
