use Rattle.std.proofs.Common.{◌≡◌, ◌∙◌, ◌<◌, List, Some, true, length, length-set, slice_get, slice_set, sym, subst, ap, arith}
use Rattle.ice_core.specs.Congestion.{price}
use Rattle.ice_graph.specs.Rows.{rows_into}
use Rattle.ice_graph.specs.declared.edge.Edge.{Edge}
use Rattle.ice_path.specs.Looks.{Widens}
use Rattle.ice_path.proofs.Looking.{far_rises, led_more, spreads_more, sum_low}
use Rattle.ice_path.proofs.Queueing.{waits_by}
use Rattle.ice_path.proofs.Settling.{price_positive, price_small}
use Rattle.ice_path.proofs.Stepping.{rows_of}
use Rattle.ice_path.proofs.look.look.Goals as goal

pub next_waiting-requires-clause-within : goal.next_waiting-requires-clause-within
next_waiting-requires-clause-within c = λ s w waits.
    let i = c.loop-step.invariant in
    let lt = waits_by (price c.args.prices.now) c.loop-step.settled c.loop-step.near c.loop-step.queue i.waits s w waits in
    omega (arith, lt, i.near, i.settled)

pub widen-requires-clause-rows : goal.widen-requires-clause-rows
widen-requires-clause-rows c = λ k e at.
    let here : slice_get (rows_into c.args.graph.now.edges c.in-Some.wire) k ≡ Some e = ap (λ (xs : List Edge). slice_get xs k) (sym c.rows_into.ensures) ∙ at in
    let lt = rows_of c.args.graph.now.edges c.args.graph.now.wires c.in-Some.wire k e c.is_graph.ensures.between here in
    let i = c.loop-step.invariant in
    omega (arith, lt, i.near)

pub widen-requires-clause-cost : goal.widen-requires-clause-cost
widen-requires-clause-cost c =
    let i = c.loop-step.invariant in
    let best = c.in-Some.ensures.least (price c.args.prices.now) c.loop-step.near (i.settled ∙ sym i.near) i.waits in
    let lt : c.in-Some.wire < length c.loop-step.settled = c.in-Some.ensures.within in
    let low = sum_low c.args.graph.now.edges (price c.args.prices.now) c.loop-step.far c.loop-step.near c.loop-step.near c.loop-step.settled c.in-Some.wire c.in-Some.sum lt best i.spreads 17046213234436 (price_small c.args.prices.now c.requires.prices c.in-Some.wire) in
    let t = c.loop-step-test.true in
    omega (arith, low, i.low, t, c.requires.few)

pub loop-step-preserved : goal.loop-step-preserved
loop-step-preserved c =
    let i = c.loop-step.invariant in
    let edges = c.args.graph.now.edges in
    let best = c.in-Some.ensures.least (price c.args.prices.now) c.loop-step.near (i.settled ∙ sym i.near) i.waits in
    let lt : c.in-Some.wire < length c.loop-step.settled = c.in-Some.ensures.within in
    let low = sum_low edges (price c.args.prices.now) c.loop-step.far c.loop-step.near c.loop-step.near c.loop-step.settled c.in-Some.wire c.in-Some.sum lt best i.spreads 17046213234436 (price_small c.args.prices.now c.requires.prices c.in-Some.wire) in
    let rises = far_rises edges (price c.args.prices.now) c.loop-step.far c.loop-step.near c.loop-step.near c.loop-step.settled c.in-Some.wire c.in-Some.sum lt best i.spreads in
    let w = subst (λ (xs : List Edge). Widens xs c.in-Some.sum (length xs) c.loop-step.near c.widen.new.near) c.rows_into.ensures c.widen.ensures.widens in
    let s = c.widen.ensures in
    record {
      near = c.widen.auto.near ∙ i.near;
      settled = length-set c.loop-step.settled c.in-Some.wire true ∙ i.settled;
      spreads = spreads_more edges (price c.args.prices.now) c.loop-step.far c.loop-step.near c.widen.new.near c.loop-step.settled c.in-Some.wire c.in-Some.sum lt best i.spreads w;
      led = λ targets rest fall k. led_more edges (price c.args.prices.now) c.loop-step.far c.loop-step.near c.widen.new.near c.loop-step.settled c.in-Some.wire c.in-Some.sum lt best i.spreads w (price_positive c.args.prices.now) targets rest fall (i.led targets rest fall k);
      few = (let t = c.loop-step-test.true in omega (arith, t));
      some = omega (arith, rises, i.some);
      low = omega (arith, low, i.low);
      waits = s.waits (slice_set c.loop-step.settled c.in-Some.wire true) (c.in-Some.ensures.waits (price c.args.prices.now) c.loop-step.near (i.settled ∙ sym i.near) i.waits);
      order = s.order;
      room = s.room;
      capacity = s.capacity ∙ (c.next_waiting.ensures.room ∙ i.capacity);
      touches = s.touches;
      space = s.space ∙ i.space;
    }

pub returns-in_default-clause-small : goal.returns-in_default-clause-small
returns-in_default-clause-small c = (let i = c.loop-step.invariant in omega (arith, i.low, i.few, c.requires.few))

pub returns-clause-small : goal.returns-clause-small
returns-clause-small c = (let i = c.loop-step.invariant in omega (arith, i.low, i.few, c.requires.few))
