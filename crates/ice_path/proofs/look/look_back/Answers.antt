use Rattle.std.proofs.Common.{◌∙◌, ◌*◌, ℕ, List, Option, length, refl, sym, subst, arith}
use Rattle.std.specs.List.{Contains}
use Rattle.ice_core.specs.Congestion.{price}
use Rattle.ice_path.specs.Aims.{RestFalls, rest}
use Rattle.ice_path.specs.Looks.{AreFar, AreLed, Reaches}
use Rattle.ice_path.proofs.Aiming.{rest_falls, rest_of_hop}
use Rattle.ice_path.proofs.Looking.{costs_are, far_all, knows, led_first, reaches_lower, spreads_first}
use Rattle.ice_path.proofs.Settling.{price_positive}
use Rattle.ice_path.proofs.Touching.{touches_none}
use Rattle.ice_path.proofs.look.look_back.Goals as goal

pub meet_all-requires-clause-touches : goal.meet_all-requires-clause-touches
meet_all-requires-clause-touches c = touches_none c.args.near.now c.args.near.now c.args.marked.now.items refl c.requires.marked c.requires.near

pub look-far-requires-clause-spreads : goal.look-far-requires-clause-spreads
look-far-requires-clause-spreads c =
    spreads_first c.args.graph.now.edges (price c.args.prices.now) (price_positive c.args.prices.now) c.args.way.now.targets.now (length c.args.way.now.targets.now) c.meet_all.new.near c.args.settled.now c.requires.settled c.meet_all.ensures.met

pub open_all-requires-clause-only : goal.open_all-requires-clause-only
open_all-requires-clause-only c = λ w is.
    let t = c.look-far.ensures.spreads.closed w is in
    subst (λ (xs : List ℕ). Contains xs w) (sym c.deref-2.ensures.value) (c.look-far.ensures.touches.covers w t.0 t.1)

pub note-requires-clause-small : goal.note-requires-clause-small
note-requires-clause-small c = λ w d at. (let a = c.look-far.ensures.spreads.shut w d at in let b = c.look-far.ensures.small in omega (arith, a, b))

pub returns-clause-knows : goal.returns-clause-knows
returns-clause-knows c =
    let edges = c.args.graph.now.edges in
    let left : ℕ → Option ℕ = rest c.args.graph.now c.args.way.now.hops.now c.args.way.now.guides.now in
    let fall : RestFalls edges left = rest_falls c.args.graph.now c.args.way.now.hops.now c.args.way.now.guides.now c.is_graph.ensures.bounds c.requires.hops.falls in
    let h = c.look-far.ensures.spreads in
    let led : AreLed c.args.way.now.targets.now left c.look-far.new.near = c.look-far.ensures.led c.args.way.now.targets.now left fall
    (led_first c.args.way.now.targets.now left c.meet_all.new.near (λ v t. (_, rest_of_hop c.args.graph.now c.args.way.now.hops.now c.args.way.now.guides.now v 0 (c.requires.hops.home v t))) c.meet_all.ensures.met) in
    let marked : List ℕ = c.look-far.new.marked.items in
    let beyond : List ℕ = c.level_up.new.beyond in
    let noted = subst (λ (xs : List ℕ). Reaches xs (length xs) (price c.args.prices.now) left c.look-far.new.near c.look-far.new.settled c.note.new.beyond) c.deref.ensures.value c.note.ensures.reach in
    let reach = reaches_lower marked (length marked) (price c.args.prices.now) left c.look-far.new.near c.look-far.new.settled c.level_down.new.beyond beyond c.level_up.ensures.lower
    (reaches_lower marked (length marked) (price c.args.prices.now) left c.look-far.new.near c.look-far.new.settled c.note.new.beyond c.level_down.new.beyond c.level_down.ensures.lower noted) in
    let filled = far_all c.fill.new.beyond (64 * 17046213234436) c.look-far.result (c.fill.ensures.long ∙ c.requires.long) (λ k lt. c.fill.ensures.all k (let long = c.fill.ensures.long in omega (arith, lt, long))) c.look-far.ensures.small in
    let far : AreFar c.look-far.result beyond = c.level_up.ensures.far c.look-far.result (c.level_down.ensures.far c.look-far.result (c.note.ensures.far c.look-far.result filled h.waits)) in
    let costs = costs_are beyond c.look-far.result c.level_up.ensures.long c.look-far.ensures.some far c.level_up.ensures.rises c.level_up.ensures.slope in
    knows edges (price c.args.prices.now) c.args.way.now.targets.now left fall c.look-far.result c.look-far.new.near c.look-far.new.settled marked beyond h led c.look-far.ensures.touches c.level_up.ensures.long c.level_up.ensures.rises reach costs far

pub returns-clause-small : goal.returns-clause-small
returns-clause-small c = (
  λ w d at. (let a = c.look-far.ensures.spreads.shut w d at in let b = c.look-far.ensures.small in omega (arith, a, b)),
  λ k. (let a = c.level_up.ensures.lower k in let b = c.level_down.ensures.lower k in let d = c.note.ensures.lower k in let e = c.fill.ensures.small k in omega (arith, a, b, d, e)),
)

pub returns-clause-labelled : goal.returns-clause-labelled
returns-clause-labelled c = λ w d at. c.look-far.ensures.touches.covers w d at
