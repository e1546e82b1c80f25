use Rattle.std.proofs.Common.{◌∙◌, length, sym, subst, ap}
use Rattle.ice_graph.specs.Network.{AreBetween, RowsRise}
use Rattle.ice_fabric.specs.Edges.{usable_rows}
use Rattle.ice_fabric.proofs.GroupRows.{placed}
use Rattle.ice_fabric.proofs.Rising.{between, rise}
use Rattle.ice_fabric.proofs.usable.fabric_by.Goals as goal

pub placed-requires-clause-between : goal.placed-requires-clause-between
placed-requires-clause-between c =
    subst (λ edges. AreBetween c.wires-wires.result edges) (sym c.in_ok-edges.ensures.edges)
    (subst (λ wires. AreBetween wires (usable_rows c.args.index.now.chip.now)) (sym c.wires-wires.ensures.wires) (between c.args.index.now.chip.now c.wires-wires.ensures.chip.read))

pub placed-requires-clause-rise : goal.placed-requires-clause-rise
placed-requires-clause-rise c = subst RowsRise (sym c.in_ok-edges.ensures.edges) (rise c.args.index.now.chip.now c.wires-wires.ensures.chip.read)

pub placed-requires-clause-places : goal.placed-requires-clause-places
placed-requires-clause-places c = ap length c.in_ok-edges.ensures.places ∙ (placed c.args.index.now.chip.now ∙ sym (ap length c.in_ok-edges.ensures.edges))
