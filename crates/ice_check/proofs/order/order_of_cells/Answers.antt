use Rattle.std.proofs.Common.{◌≡◌, ◌∙◌, ◌≤◌, ℕ, List, length, sym, subst}
use Rattle.ice_base_values.specs.Order.{IsOrder, IsSimpleCycle}
use Rattle.ice_base_values.specs.Graph.{depends_of}
use Rattle.ice_base_values.specs.Outcome.{IsOutcome}
use Rattle.ice_check.specs.Loops.{cells_before}
use Rattle.ice_check.proofs.Graphs.{order_of_graph, cycle_of_graph}
use Rattle.ice_check.proofs.CellOrders.{no_cell_cycle, order_small}
use Rattle.ice_check.proofs.order.order_of_cells.Goals as goal

pub order-requires : goal.order-requires
order-requires c = c.in_ok-graph.ensures.graph.within

pub narrowed-requires : goal.narrowed-requires
narrowed-requires c =
    let rows : List (List ℕ) = c.in_ok-graph.graph in
    let told : IsOutcome rows c.in_ok-order.field-0 = c.in_ok-order.ensures in
    let found : IsOrder (length rows) (depends_of rows) c.in-Order.order.items = subst (IsOutcome rows) c.in-Order.is told in
    let given : IsOrder (length rows) (depends_of rows) c.deref.result.now = subst (IsOrder (length rows) (depends_of rows)) (sym c.deref.ensures.value) found in
    let few : length rows ≤ 1073741823 = subst (λ points. points ≤ 1073741823) (sym c.in_ok-graph.ensures.graph.count) c.in_ok-graph.ensures.formed.few_cells in
    order_small (length rows) (depends_of rows) c.deref.result.now given few

pub unreachable-requires : goal.unreachable-requires
unreachable-requires c =
    let n = c.args.netlist.now in
    let rows : List (List ℕ) = c.in_ok-graph.graph in
    let told : IsOutcome rows c.in_ok-order.field-0 = c.in_ok-order.ensures in
    let found : IsSimpleCycle (length rows) (depends_of rows) c.in-Cycle.field-0.items = subst (IsOutcome rows) c.in-Cycle.is told in
    no_cell_cycle n c.in_ok-graph.ensures.formed c.requires.signals c.in-Cycle.field-0.items
    (cycle_of_graph (length n.cells) (cells_before n) rows c.in-Cycle.field-0.items c.in_ok-graph.ensures.graph found.below)

pub returns : goal.returns
returns c =
    let n = c.args.netlist.now in
    let rows : List (List ℕ) = c.in_ok-graph.graph in
    let told : IsOutcome rows c.in_ok-order.field-0 = c.in_ok-order.ensures in
    let found : IsOrder (length rows) (depends_of rows) c.in-Order.order.items = subst (IsOutcome rows) c.in-Order.is told in
    let same : c.deref.result.now ≡ c.in-Order.order.items = c.deref.ensures.value in
    let narrow : c.in_ok-order-in-Order.order.items ≡ c.deref.result.now = c.in_ok-order-in-Order.ensures in
    subst (IsOrder (length n.cells) (cells_before n)) (sym (narrow ∙ same))
    (order_of_graph (length n.cells) (cells_before n) rows c.in-Order.order.items c.in_ok-graph.ensures.graph found)
