use Rattle.std.proofs.Common.{ℕ, List, length, sym, subst}
use Rattle.ice_base_values.specs.Order.{IsOrder, IsSimpleCycle}
use Rattle.ice_base_values.specs.Graph.{depends_of}
use Rattle.ice_base_values.specs.Outcome.{IsOutcome}
use Rattle.ice_bits.specs.Configuration.{bits_of}
use Rattle.ice_decode.specs.Reads.{depends_on}
use Rattle.ice_decode_circuit.proofs.Graphs.{within}
use Rattle.ice_decode_circuit.proofs.evaluation.found_in.Goals as goal

pub order-requires : goal.order-requires
order-requires c = within c.args.numbering.now (depends_on c.args.chip.now (bits_of c.args.bits.now) c.args.bits.now.extras) c.args.graph.now c.requires.graph

pub order_at-requires-clause-order : goal.order_at-requires-clause-order
order_at-requires-clause-order c =
    let rows : List (List ℕ) = c.args.graph.now in
    let told : IsOutcome rows c.in_ok-order.field-0 = c.in_ok-order.ensures in
    let found : IsOrder (length rows) (depends_of rows) c.in-Order.order.items = subst (IsOutcome rows) c.in-Order.is told in
    subst (IsOrder (length rows) (depends_of rows)) (sym c.deref.ensures.value) found

pub loop_at-requires-clause-cycle : goal.loop_at-requires-clause-cycle
loop_at-requires-clause-cycle c =
    let rows : List (List ℕ) = c.args.graph.now in
    let told : IsOutcome rows c.in_ok-order.field-0 = c.in_ok-order.ensures in
    let found : IsSimpleCycle (length rows) (depends_of rows) c.in-Cycle.cycle.items = subst (IsOutcome rows) c.in-Cycle.is told in
    subst (IsSimpleCycle (length rows) (depends_of rows)) (sym c.deref-in-Cycle.ensures.value) found
