use Rattle.std.proofs.Common.{◌≡◌, ◌≤◌, slice_index, take}
use Rattle.ice_core.specs.Routes.{numbers}
use Rattle.ice_claim.specs.Claims.{with_own}
use Rattle.ice_claim.specs.Grips.{IsPassOf}
use Rattle.ice_claim_opening.specs.Workers.{took_until}
use Rattle.ice_claim_opening.proofs.worker.keep_net.Given as goal

abbrev pub invariant-loop-left : goal.invariant-loop-left
invariant-loop-left l = record {
  few : l.left ≤ l.found;
  of : IsPassOf l.table l.pass;
  view : l.pass.view ≡ with_own (took_until l.net (take l.left (numbers l.list)) (slice_index (numbers l.list) l.found)) l.fn.pass.view;
}

abbrev pub decreases-loop-left : goal.decreases-loop-left
decreases-loop-left l = l.left
