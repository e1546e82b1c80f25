use Rattle.std.proofs.Common.{◌≤◌, ◌-◌, length, vec_capacity, vec_len}
use Rattle.ice_claim.specs.Grips.{IsPassOf}
use Rattle.ice_claim_opening.proofs.Keeping.{IsBetween}
use Rattle.ice_claim_opening.proofs.worker.keep_nets.Given as goal

abbrev pub invariant-loop-net : goal.invariant-loop-net
invariant-loop-net g l = record {
  of : IsPassOf l.table l.pass;
  between : IsBetween l.table.lists l.fn.pass.view l.pass.view l.notes.items;
  room : length l.lists ≤ vec_capacity l.notes;
}

abbrev pub decreases-loop-net : goal.decreases-loop-net
decreases-loop-net g l = length l.lists - vec_len l.notes
