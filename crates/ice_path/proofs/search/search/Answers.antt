use Rattle.std.proofs.Common.{◌≡◌, ◌∙◌, ◌+◌, ◌≤◌, ◌*◌, ◌<◌, ℕ, List, Option, Bool, true, IfSome, length, slice_set, refl, sym, subst, arith}
use Rattle.ice_base.specs.declared.number.WireNo.{WireNo}
use Rattle.ice_core.specs.Congestion.{price}
use Rattle.ice_path.specs.Aims.{bound_in, leads}
use Rattle.ice_path.specs.Search.{IsLeastOpen, IsNearest, Lists, nearest_after, opens, done, label}
use Rattle.ice_path.proofs.Settling.{starts, open_edges_all}
use Rattle.ice_path.proofs.Ending.{ends, has_none, is_next, sum_is, beyond_none, beyond_least, opens_set, none_open, listed_more, listed_none, nearest_more, nearest_low, past_beyond, past_some, if_none}
use Rattle.ice_path.proofs.search.search.Goals as goal

pub loop-round-init : goal.loop-round-init
loop-round-init c =
    let most = none_open c.args.settled.now in
    let edges = open_edges_all c.args.settled.now c.args.graph.now.edges in
    record {
      labels = c.requires.lengths.1;
      settled = c.requires.lengths.2;
      so_far = starts c.args.graph.now.edges (price c.args.prices.now) c.args.tree.now (bound_in c.args.graph.now c.args.aim.now) (leads c.args.aim.now) 17046213234436 c.args.labels.now c.args.settled.now c.requires.starts;
      nearest = λ w target. c.requires.starts.fresh w;
      low = tt;
      listed = listed_none c.args.order.now.items c.args.settled.now c.requires.listed c.requires.starts.fresh;
      list = refl;
      left = omega (arith, most, c.requires.lengths.2);
      waits = c.requires.waits;
      order = c.requires.order;
      room = omega (arith, edges, c.requires.room);
      capacity = refl;
      touches = c.requires.touches;
      space = refl;
    }

pub label_of-cost-requires : goal.label_of-cost-requires
label_of-cost-requires c = let best = c.in-Some.ensures.least in (best.0.0, best.0.1)

pub push_reserved-requires : goal.push_reserved-requires
push_reserved-requires c =
    let i = c.loop-round.invariant in
    let one' = opens_set c.loop-round.settled c.in-Some.wire (omega (arith, i.settled, i.labels, c.in-Some.ensures.within)) c.in-Some.ensures.least.1 in
    let room = i.listed.room in
    omega (arith, one', room, i.settled, i.list, c.requires.list)

pub settle-requires-clause-next : goal.settle-requires-clause-next
settle-requires-clause-next c = is_next (bound_in c.args.graph.now c.args.aim.now) c.loop-round.labels c.loop-round.settled c.in-Some.wire c.in-Some.sum c.label_of-cost.result c.in-Some.ensures.least c.label_of-cost.ensures

pub settle-requires-clause-cost : goal.settle-requires-clause-cost
settle-requires-clause-cost c =
    let i = c.loop-round.invariant in
    let one' = opens_set c.loop-round.settled c.in-Some.wire (omega (arith, i.settled, i.labels, c.in-Some.ensures.within)) c.in-Some.ensures.least.1 in
    let low = i.so_far.low c.in-Some.wire c.label_of-cost.result c.label_of-cost.ensures in
    let few : c.loop-round._round ≤ 1048575 = omega (arith, one', i.left, c.requires.prices.wires, c.requires.lengths.0) in
    omega (arith, low, few)

pub loop-round-preserved : goal.loop-round-preserved
loop-round-preserved c =
    let i = c.loop-round.invariant in
    let s = c.settle.ensures in
    let u : ℕ = c.in-Some.wire in
    let best = c.in-Some.ensures.least in
    let is = c.label_of-cost.ensures in
    let lt : u < length c.loop-round.settled = omega (arith, i.settled, i.labels, c.in-Some.ensures.within) in
    let one' = opens_set c.loop-round.settled u lt best.1 in
    let few : c.loop-round._round ≤ 1048575 = omega (arith, one', i.left, c.requires.prices.wires, c.requires.lengths.0) in
    let cost_low : c.label_of-cost.result ≤ 1048575 * 17046213234436 = (let low = i.so_far.low u c.label_of-cost.result is in omega (arith, low, few)) in
    let fixed = subst (λ (bs : List Bool). (w : ℕ) → done bs w ≡ true → label c.settle.new.labels w ≡ label c.loop-round.labels w) s.settled s.fixed in
    let after = nearest_more c.loop-round.settled u lt (bound_in c.args.graph.now c.args.aim.now) c.args.aim.now.targets.now c.loop-round.labels c.settle.new.labels c.label_of-cost.result c.in-Some.sum
    c.requires.aim.home c.requires.aim.away
    (λ a la shut at. i.so_far.order a u la c.label_of-cost.result shut best.1 at is) is (sum_is (bound_in c.args.graph.now c.args.aim.now) c.loop-round.labels c.loop-round.settled u c.in-Some.sum c.label_of-cost.result best is)
    fixed c.loop-round.nearest (sym c.is_past.ensures ∙ c.if-is_past.false) i.nearest in
    let opens_now = subst (λ (bs : List Bool). opens bs + 1 ≡ opens c.loop-round.settled) (sym s.settled) one' in
    record {
      labels = c.settle.auto.labels ∙ i.labels;
      settled = c.settle.auto.settled ∙ i.settled;
      so_far = s.searches c.args.tree.now c.loop-round._round i.so_far;
      nearest = subst (λ (o : Option ℕ). IsNearest (bound_in c.args.graph.now c.args.aim.now) c.args.aim.now.targets.now c.settle.new.labels c.settle.new.settled o) (sym c.nearest_with-nearest.ensures)
          (subst (λ (bs : List Bool). IsNearest (bound_in c.args.graph.now c.args.aim.now) c.args.aim.now.targets.now c.settle.new.labels bs (nearest_after c.loop-round.nearest c.label_of-cost.result c.in-Some.sum)) (sym s.settled) after);
      low = subst (λ (o : Option ℕ). IfSome o (λ n. n ≤ 1048575 * 17046213234436)) (sym c.nearest_with-nearest.ensures) (nearest_low c.loop-round.nearest c.label_of-cost.result c.in-Some.sum (1048575 * 17046213234436) i.low cost_low);
      listed = subst (λ (bs : List Bool). Lists c.push_reserved.new.self.items bs) (sym s.settled)
          (subst (λ (xs : List WireNo). Lists xs (slice_set c.loop-round.settled u true)) (sym c.push_reserved.ensures.items) (listed_more c.loop-round.settled u lt c.loop-round.order.items (record { 0 = u }) refl best.1 i.listed));
      list = c.push_reserved.ensures.capacity ∙ i.list;
      left = omega (arith, opens_now, i.left);
      waits = s.waits;
      order = s.order;
      room = s.room;
      capacity = s.capacity ∙ (c.next_open.ensures.room ∙ i.capacity);
      touches = s.touches;
      space = s.space ∙ i.space;
    }

pub returns-in_default-clause-some : goal.returns-in_default-clause-some
returns-in_default-clause-some c =
    let i = c.loop-round.invariant in
    let e = ends c.args.graph.now.edges (price c.args.prices.now) c.args.tree.now c.args.aim.now.targets.now (bound_in c.args.graph.now c.args.aim.now) (leads c.args.aim.now) c.requires.aim c.loop-round._round c.loop-round.labels c.loop-round.settled c.loop-round.order.items c.loop-round.nearest i.so_far i.nearest i.low i.listed
    (λ n is. beyond_none (bound_in c.args.graph.now c.args.aim.now) c.loop-round.labels c.loop-round.settled n (subst (IsLeastOpen (bound_in c.args.graph.now c.args.aim.now) c.loop-round.labels c.loop-round.settled) c.in_default.is c.next_open.ensures.least)) in
    e.some

pub returns-in_default-clause-exact : goal.returns-in_default-clause-exact
returns-in_default-clause-exact c =
    let i = c.loop-round.invariant in
    let e = ends c.args.graph.now.edges (price c.args.prices.now) c.args.tree.now c.args.aim.now.targets.now (bound_in c.args.graph.now c.args.aim.now) (leads c.args.aim.now) c.requires.aim c.loop-round._round c.loop-round.labels c.loop-round.settled c.loop-round.order.items c.loop-round.nearest i.so_far i.nearest i.low i.listed
    (λ n is. beyond_none (bound_in c.args.graph.now c.args.aim.now) c.loop-round.labels c.loop-round.settled n (subst (IsLeastOpen (bound_in c.args.graph.now c.args.aim.now) c.loop-round.labels c.loop-round.settled) c.in_default.is c.next_open.ensures.least)) in
    e.exact

pub returns-in_default-clause-settled : goal.returns-in_default-clause-settled
returns-in_default-clause-settled c =
    let i = c.loop-round.invariant in
    let e = ends c.args.graph.now.edges (price c.args.prices.now) c.args.tree.now c.args.aim.now.targets.now (bound_in c.args.graph.now c.args.aim.now) (leads c.args.aim.now) c.requires.aim c.loop-round._round c.loop-round.labels c.loop-round.settled c.loop-round.order.items c.loop-round.nearest i.so_far i.nearest i.low i.listed
    (λ n is. beyond_none (bound_in c.args.graph.now c.args.aim.now) c.loop-round.labels c.loop-round.settled n (subst (IsLeastOpen (bound_in c.args.graph.now c.args.aim.now) c.loop-round.labels c.loop-round.settled) c.in_default.is c.next_open.ensures.least)) in
    e.settled

pub returns-then-is_past-clause-some : goal.returns-then-is_past-clause-some
returns-then-is_past-clause-some c =
    let i = c.loop-round.invariant in
    let e = ends c.args.graph.now.edges (price c.args.prices.now) c.args.tree.now c.args.aim.now.targets.now (bound_in c.args.graph.now c.args.aim.now) (leads c.args.aim.now) c.requires.aim c.loop-round._round c.loop-round.labels c.loop-round.settled c.loop-round.order.items c.loop-round.nearest i.so_far i.nearest i.low i.listed
    (λ n is. beyond_least (bound_in c.args.graph.now c.args.aim.now) c.loop-round.labels c.loop-round.settled n (c.in-Some.wire, c.in-Some.sum) c.in-Some.ensures.least (past_beyond c.loop-round.nearest c.in-Some.sum n (sym c.is_past.ensures ∙ c.if-is_past.true) is)) in
    e.some

pub returns-then-is_past-clause-exact : goal.returns-then-is_past-clause-exact
returns-then-is_past-clause-exact c =
    let i = c.loop-round.invariant in
    let e = ends c.args.graph.now.edges (price c.args.prices.now) c.args.tree.now c.args.aim.now.targets.now (bound_in c.args.graph.now c.args.aim.now) (leads c.args.aim.now) c.requires.aim c.loop-round._round c.loop-round.labels c.loop-round.settled c.loop-round.order.items c.loop-round.nearest i.so_far i.nearest i.low i.listed
    (λ n is. beyond_least (bound_in c.args.graph.now c.args.aim.now) c.loop-round.labels c.loop-round.settled n (c.in-Some.wire, c.in-Some.sum) c.in-Some.ensures.least (past_beyond c.loop-round.nearest c.in-Some.sum n (sym c.is_past.ensures ∙ c.if-is_past.true) is)) in
    e.exact

pub returns-then-is_past-clause-settled : goal.returns-then-is_past-clause-settled
returns-then-is_past-clause-settled c =
    let i = c.loop-round.invariant in
    let e = ends c.args.graph.now.edges (price c.args.prices.now) c.args.tree.now c.args.aim.now.targets.now (bound_in c.args.graph.now c.args.aim.now) (leads c.args.aim.now) c.requires.aim c.loop-round._round c.loop-round.labels c.loop-round.settled c.loop-round.order.items c.loop-round.nearest i.so_far i.nearest i.low i.listed
    (λ n is. beyond_least (bound_in c.args.graph.now c.args.aim.now) c.loop-round.labels c.loop-round.settled n (c.in-Some.wire, c.in-Some.sum) c.in-Some.ensures.least (past_beyond c.loop-round.nearest c.in-Some.sum n (sym c.is_past.ensures ∙ c.if-is_past.true) is)) in
    e.settled

pub returns-in_default-clause-none : goal.returns-in_default-clause-none
returns-in_default-clause-none c =
    let i = c.loop-round.invariant in
    if_none c.loop-round.nearest (λ is. has_none c.args.graph.now.edges (price c.args.prices.now) c.args.tree.now c.args.aim.now.targets.now (bound_in c.args.graph.now c.args.aim.now) (leads c.args.aim.now) c.requires.aim 17046213234436 c.loop-round._round c.loop-round.labels c.loop-round.settled i.so_far
    (subst (IsLeastOpen (bound_in c.args.graph.now c.args.aim.now) c.loop-round.labels c.loop-round.settled) c.in_default.is c.next_open.ensures.least) (subst (IsNearest (bound_in c.args.graph.now c.args.aim.now) c.args.aim.now.targets.now c.loop-round.labels c.loop-round.settled) is i.nearest))

pub returns-then-is_past-clause-none : goal.returns-then-is_past-clause-none
returns-then-is_past-clause-none c = if_none c.loop-round.nearest (λ is. absurd (past_some c.loop-round.nearest c.in-Some.sum (sym c.is_past.ensures ∙ c.if-is_past.true) is))
