use Rattle.std.proofs.Common.{length, arith, subst, ◌<◌}
use Rattle.ice_core.specs.Routes.{numbers}
use Rattle.ice_claim.specs.Rule.{IsShared}
use Rattle.ice_claim_opening.proofs.Taking.{next_claimed, wire_had, wire_lost, wire_new, wire_there, wire_took}
use Rattle.ice_claim_opening.proofs.Wires.{number_by_place}
use Rattle.ice_claim_opening.proofs.worker.take_all.Goals as goal

pub take-requires-clause-claimed : goal.take-requires-clause-claimed
take-requires-clause-claimed c =
    omega (arith, c.requires.claimed, next_claimed c.args.net c.args.net (numbers c.args.list.now) c.loop-k.k c.args.pass.now.view c.loop-k.pass.view c.requires.parts c.loop-k.invariant.view)

pub take-requires-clause-listed : goal.take-requires-clause-listed
take-requires-clause-listed c =
    let lt : c.loop-k.k < length c.args.list.now = omega (arith, c.loop-k-test.true) in
    wire_there c.args.net c.args.list.now c.loop-k.k c.args.pass.now.view c.loop-k.pass.view c.requires.parts lt _ c.requires.list

pub take-requires-clause-new : goal.take-requires-clause-new
take-requires-clause-new c =
    let lt : c.loop-k.k < length c.args.list.now = omega (arith, c.loop-k-test.true) in
    wire_new c.args.net c.args.list.now c.loop-k.k c.args.pass.now.view c.loop-k.pass.view c.requires.parts lt c.loop-k.invariant.view c.requires.once c.requires.none

pub returns-then-not-take-clause-until : goal.returns-then-not-take-clause-until
returns-then-not-take-clause-until c =
    let lt : c.loop-k.k < length c.args.list.now = omega (arith, c.loop-k-test.true) in
    let lost = c.take.ensures.lost c.if-not-take.true in
    (lt, wire_lost c.args.net c.args.list.now c.loop-k.k c.args.pass.now.view c.loop-k.pass.view c.requires.parts lt c.loop-k.invariant.view c.take.new.pass.view lost.0)

pub returns-then-not-take-clause-shared : goal.returns-then-not-take-clause-shared
returns-then-not-take-clause-shared c =
    let lt : c.loop-k.k < length c.args.list.now = omega (arith, c.loop-k-test.true) in
    let lost = c.take.ensures.lost c.if-not-take.true in
    subst (λ x. IsShared c.args.table.now.lists c.args.net x) (number_by_place c.args.list.now c.loop-k.k lt) lost.1

pub returns-then-not-take-clause-lone : goal.returns-then-not-take-clause-lone
returns-then-not-take-clause-lone c =
    let lt : c.loop-k.k < length c.args.list.now = omega (arith, c.loop-k-test.true) in
    wire_had c.args.net c.args.list.now c.loop-k.k c.args.pass.now.view c.loop-k.pass.view c.requires.parts lt c.loop-k.invariant.view c.take.result c.requires.once c.if-not-take.true c.take.ensures.lone

pub loop-k-preserved : goal.loop-k-preserved
loop-k-preserved c =
    let lt : c.loop-k.k < length c.args.list.now = omega (arith, c.loop-k-test.true) in
    record {
      of = c.take.ensures.of;
      view = wire_took c.args.net c.args.list.now c.loop-k.k c.args.pass.now.view c.loop-k.pass.view c.requires.parts lt c.loop-k.invariant.view c.take.new.pass.view (c.take.ensures.taken c.if-not-take.false);
    }
