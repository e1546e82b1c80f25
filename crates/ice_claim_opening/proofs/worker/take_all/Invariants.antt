use Rattle.std.proofs.Common.{◌≡◌, take}
use Rattle.ice_core.specs.Routes.{numbers}
use Rattle.ice_claim.specs.Claims.{with_own}
use Rattle.ice_claim.specs.Grips.{IsPassOf}
use Rattle.ice_claim_opening.specs.Workers.{took}
use Rattle.ice_claim_opening.proofs.worker.take_all.Given as goal

abbrev pub invariant-loop-k : goal.invariant-loop-k
invariant-loop-k l = record {
  of : IsPassOf l.table l.pass;
  view : l.pass.view ≡ with_own (took l.net (take l.k (numbers l.list))) l.fn.pass.view;
}
