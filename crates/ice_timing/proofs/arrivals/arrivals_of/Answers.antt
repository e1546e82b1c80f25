use Rattle.std.proofs.Common.{List, refl, sym, subst}
use Rattle.ice_bits.specs.Configuration.{bits_of}
use Rattle.ice_decode.specs.declared.point.Point.{Point}
use Rattle.ice_decode.specs.Loops.{IsOrderOf}
use Rattle.ice_timing.proofs.Filled.{arrivals_right}
use Rattle.ice_timing.proofs.arrivals.arrivals_of.Goals as goal

pub invariant_of-result : goal.invariant_of-result
invariant_of-result c = record { long = c.in_ok-at.ensures.filled.long; within = c.in_ok-at.ensures.within }

pub returns : goal.returns
returns c =
    arrivals_right c.args.chip.now (bits_of c.args.circuit.now.configuration) c.args.circuit.now.configuration.extras c.args.delays.now c.in_ok-numbering.numbering c.order.result.now c.in_ok-numbering.ensures.points
    (subst (IsOrderOf c.args.chip.now (bits_of c.args.circuit.now.configuration) c.args.circuit.now.configuration.extras) (sym c.order.ensures) c.requires.ordered) _ refl c.in_ok-at.ensures.filled
