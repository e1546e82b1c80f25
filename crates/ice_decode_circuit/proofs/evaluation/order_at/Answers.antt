use Rattle.std.proofs.Common.{length}
use Rattle.ice_base_values.specs.Graph.{depends_of}
use Rattle.ice_decode_circuit.proofs.Graphs.{order_below}
use Rattle.ice_decode_circuit.proofs.Evaluated.{order_of}
use Rattle.ice_bits.specs.Configuration.{bits_of}
use Rattle.ice_decode_circuit.proofs.evaluation.order_at.Goals as goal

pub points_at-requires : goal.points_at-requires
points_at-requires c = order_below c.args.numbering.now (length c.args.graph.now) (depends_of c.args.graph.now) c.args.order.now c.requires.graph.count c.requires.order

pub returns : goal.returns
returns c =
    order_of c.args.chip.now (bits_of c.args.bits.now) c.args.bits.now.extras c.args.numbering.now c.args.graph.now c.requires.graph c.requires.points c.args.order.now c.in_ok-points.points.items c.in_ok-points.ensures c.requires.order
