use Rattle.std.proofs.Common.{◌≡◌, ◌∙◌, sym, subst, arith}
use Rattle.ice_core.specs.Congestion.{price}
use Rattle.ice_path.specs.Walks.{IsLabel}
use Rattle.ice_path.specs.Paths.{IsTaken}
use Rattle.ice_path.proofs.Settling.{price_positive}
use Rattle.ice_path.proofs.Stepping.{Goes, goes_on, goes_home, off_tree, fewer_below}
use Rattle.ice_path.proofs.back.walk_back.Goals as goal

pub loop-rest-preserved : goal.loop-rest-preserved
loop-rest-preserved c =
    let i = c.loop-rest.invariant in
    let e = c.step_back-before.ensures in
    let row = c.step_back-before.result.0 in
    let off = off_tree c.args.graph.now.edges (price c.args.prices.now) c.args.tree.now (price_positive c.args.prices.now) c.loop-rest.wire c.loop-rest.rest c.loop-rest-test.true i.is in
    let fewer = fewer_below c.loop-rest.rest c.step_back-before.result.1 e.less c.args.labels.now row.from.0 e.labelled in
    record {
      within = e.within;
      is = e.source;
      exact = e.exact;
      goes = subst (Goes c.args.graph.now.edges (price c.args.prices.now) c.args.tree.now c.args.target row.from.0) (sym c.push_reserved.ensures.items)
          (goes_on c.args.graph.now.edges (price c.args.prices.now) c.args.tree.now c.args.target c.loop-rest.wire c.loop-rest.path.items row off e.step i.goes);
      room = omega (arith, fewer, i.room, c.push_reserved.ensures.len);
      space = c.push_reserved.ensures.capacity ∙ i.space;
    }

pub returns-clause-taken : goal.returns-clause-taken
returns-clause-taken c =
    let i = c.loop-rest.invariant in
    let done : c.loop-rest.rest ≡ 0 = omega (arith, c.loop-rest-test.false) in
    subst (IsTaken c.args.graph.now.edges (price c.args.prices.now) c.args.tree.now c.args.target) (sym c.reverse.ensures.items)
    (goes_home c.args.graph.now.edges (price c.args.prices.now) c.args.tree.now c.args.target c.loop-rest.wire c.loop-rest.path.items (price_positive c.args.prices.now)
    (subst (IsLabel c.args.graph.now.edges (price c.args.prices.now) c.args.tree.now c.loop-rest.wire) done i.is) i.goes)
