use Rattle.std.proofs.Common.{◌≡◌, ℕ, List, length, sym, subst}
use Rattle.ice_base_values.specs.Order.{IsSimpleCycle}
use Rattle.ice_base_values.specs.Graph.{depends_of}
use Rattle.ice_base_values.specs.Outcome.{IsOutcome}
use Rattle.ice_net.specs.Meaning.{depends_on}
use Rattle.ice_check.proofs.Graphs.{order_of_graph, cycle_of_graph}
use Rattle.ice_check.proofs.loops.search_signals.Goals as goal

pub returns-in-Order : goal.returns-in-Order
returns-in-Order c =
    let n = c.args.netlist.now in
    let rows : List (List ℕ) = c.in_ok-graph.graph in
    let told : IsOutcome rows c.in_ok-order.field-0 = c.in_ok-order.ensures in
    order_of_graph (length n.names) (depends_on n) rows c.in-Order.order.items c.in_ok-graph.ensures (subst (IsOutcome rows) c.in-Order.is told)

pub returns : goal.returns
returns c =
    let n = c.args.netlist.now in
    let rows : List (List ℕ) = c.in_ok-graph.graph in
    let told : IsOutcome rows c.in_ok-order.field-0 = c.in_ok-order.ensures in
    let found : IsSimpleCycle (length rows) (depends_of rows) c.in-Cycle.cycle.items = subst (IsOutcome rows) c.in-Cycle.is told in
    let same : c.deref.result.now ≡ c.in-Cycle.cycle.items = c.deref.ensures.value in
    let given : IsSimpleCycle (length rows) (depends_of rows) c.deref.result.now = subst (IsSimpleCycle (length rows) (depends_of rows)) (sym same) found in
    record {
      closes = record {
        below = c.in_ok-signals-in-Cycle.ensures.same (length n.names) (depends_on n) (cycle_of_graph (length n.names) (depends_on n) rows c.deref.result.now c.in_ok-graph.ensures given.below);
        once = c.in_ok-signals-in-Cycle.ensures.once given.once;
      };
      first_seen = c.in_ok-signals-in-Cycle.ensures.least;
    }
