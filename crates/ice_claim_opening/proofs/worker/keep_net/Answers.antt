use Rattle.std.proofs.Common.{length, slice_index, arith, subst, sym, ◌≤◌, ◌<◌}
use Rattle.ice_core.specs.Routes.{numbers}
use Rattle.ice_claim.specs.Claims.{total, takes_on}
use Rattle.ice_claim_opening.proofs.Taking.{last_gone, last_had}
use Rattle.ice_claim_opening.proofs.Wires.{number_by_place}
use Rattle.ice_claim_opening.proofs.worker.keep_net.Goals as goal

pub give-requires-clause-held : goal.give-requires-clause-held
give-requires-clause-held c =
    let some_left : 0 < c.loop-left.left = omega (arith, c.loop-left-test.true) in
    let lt : c.loop-left.left ≤ length c.args.list.now = omega (arith, c.loop-left.invariant.few, c.in-Some.ensures.until.0) in
    last_had c.args.net c.args.list.now c.loop-left.left (slice_index (numbers c.args.list.now) c.in-Some.found) c.args.pass.now.view c.loop-left.pass.view c.requires.parts some_left lt c.loop-left.invariant.view

pub loop-left-preserved : goal.loop-left-preserved
loop-left-preserved c =
    let some_left : 0 < c.loop-left.left = omega (arith, c.loop-left-test.true) in
    let lt : c.loop-left.left ≤ length c.args.list.now = omega (arith, c.loop-left.invariant.few, c.in-Some.ensures.until.0) in
    record {
      few = omega (arith, c.loop-left.invariant.few);
      of = c.give.ensures.of;
      view = last_gone c.args.net c.args.list.now c.loop-left.left (slice_index (numbers c.args.list.now) c.in-Some.found) c.args.pass.now.view c.loop-left.pass.view c.requires.parts some_left lt c.loop-left.invariant.view c.give.new.pass.view c.give.ensures.view;
    }

pub returns-clause-lone : goal.returns-clause-lone
returns-clause-lone c =
    λ alone. subst (λ x. 1 ≤ total (takes_on x) c.args.pass.now.view) (sym (number_by_place c.args.list.now c.in-Some.found c.in-Some.ensures.until.0)) (c.in-Some.ensures.lone alone)
