use Rattle.std.proofs.Common.{◌≡◌, ◌+◌, ◌≤◌, All, vec_len, vec_capacity}
use Rattle.ice_words.specs.Grips.{IsHandOf}
use Rattle.ice_negotiate_round.specs.Jobs.{HasWorked, main_view}
use Rattle.ice_negotiate_round.specs.Played.{IsLeft, parts_of}
use Rattle.ice_negotiate_round.proofs.jobs.gather.Given as goal

abbrev pub invariant-loop-job : goal.invariant-loop-job
invariant-loop-job l = record {
  of : IsHandOf l.words l.main;
  view : l.main.view ≡ main_view l.words (vec_len l.fn.jobs) (vec_len l.jobs) (parts_of l.words.olds l.dones.items);
  jobs : All (HasWorked l.graph l.prices l.tasks l.words) l.jobs.items;
  dones : All (IsLeft l.graph l.prices l.tasks l.words.olds) l.dones.items;
  many : vec_len l.dones + vec_len l.jobs ≡ vec_len l.fn.jobs;
  room : vec_len l.fn.jobs ≤ vec_capacity l.dones;
}

abbrev pub decreases-loop-job : goal.decreases-loop-job
decreases-loop-job l = vec_len l.jobs
