use Rattle.std.proofs.Common.{length, ap, sym, ◌∙◌, subst}
use Rattle.ice_base_values.specs.Order.{IsCycleBelow, IsSimpleCycle}
use Rattle.ice_base_values.specs.Graph.{depends_of}
use Rattle.ice_bits.specs.Configuration.{bits_of}
use Rattle.ice_decode.specs.Loops.{wires_among}
use Rattle.ice_decode_circuit.proofs.Graphs.{cycle_below}
use Rattle.ice_decode_circuit.proofs.Evaluated.{loop_of}
use Rattle.ice_decode_circuit.proofs.evaluation.loop_at.Goals as goal

pub points_at-requires : goal.points_at-requires
points_at-requires c =
    let turned : IsCycleBelow (length c.args.graph.now) (depends_of c.args.graph.now) c.in_ok-cycle.cycle.items
    = c.in_ok-cycle.ensures.same (length c.args.graph.now) (depends_of c.args.graph.now) c.requires.cycle.below in
    cycle_below c.args.numbering.now (length c.args.graph.now) (depends_of c.args.graph.now) c.deref.result.now c.requires.graph.count
    (subst (IsCycleBelow (length c.args.graph.now) (depends_of c.args.graph.now)) (sym c.deref.ensures.value) turned)

pub returns : goal.returns
returns c =
    let turned : IsSimpleCycle (length c.args.graph.now) (depends_of c.args.graph.now) c.in_ok-cycle.cycle.items = record {
      below = c.in_ok-cycle.ensures.same (length c.args.graph.now) (depends_of c.args.graph.now) c.requires.cycle.below;
      once = c.in_ok-cycle.ensures.once c.requires.cycle.once;
    } in
    let last : IsSimpleCycle (length c.args.graph.now) (depends_of c.args.graph.now) c.deref.result.now
    = subst (IsSimpleCycle (length c.args.graph.now) (depends_of c.args.graph.now)) (sym c.deref.ensures.value) turned in
    loop_of c.args.chip.now (bits_of c.args.bits.now) c.args.bits.now.extras c.args.numbering.now c.args.graph.now c.requires.graph c.requires.points c.deref.result.now c.in_ok-points.points.items c.in_ok-points.ensures
    c.in_ok-wires.wires (c.in_ok-wires.ensures ∙ ap wires_among c.deref-2.ensures.value) last.below last.once
