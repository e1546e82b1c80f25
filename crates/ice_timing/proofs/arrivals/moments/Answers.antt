use Rattle.std.proofs.Common.{◌≡◌, ◌∙◌, ◌<◌, ◌^◌, List, ℕ, length, get_or, ap, sym, subst, arith}
use Rattle.std.proofs.lemmas.Option.{slice_get-get_or}
use Rattle.ice_bits.specs.Configuration.{bits_of}
use Rattle.ice_base_values.proofs.Members.{At_within}
use Rattle.ice_decode.specs.declared.point.Point.{Point}
use Rattle.ice_decode.specs.declared.point.Point.TheVariants.{Wire}
use Rattle.ice_decode.specs.Loops.{IsOrderOf}
use Rattle.ice_timing.specs.Arriving.{AreFilled, AreWithin, IsReached, IsSoon}
use Rattle.ice_timing.proofs.Filled.{none_filled, order_numbered, one_filled, well_within}
use Rattle.ice_timing.proofs.arrivals.moments.Goals as goal

pub loop-point-init : goal.loop-point-init
loop-point-init c = (
  none_filled c.args.chip.now (bits_of c.args.circuit.now.configuration) c.args.circuit.now.configuration.extras c.args.delays.now c.args.numbering.now c.args.order.now c.requires.points
      (subst (IsOrderOf c.args.chip.now (bits_of c.args.circuit.now.configuration) c.args.circuit.now.configuration.extras) (sym c.requires.order) c.requires.circuit.ordered)
      c.in_ok-at.at.items (length c.points.result.now) (ap length c.points.ensures) c.in_ok-at.ensures,
  omega arith,
)

pub arrival-requires-clause-point : goal.arrival-requires-clause-point
arrival-requires-clause-point c =
    order_numbered c.args.chip.now (bits_of c.args.circuit.now.configuration) c.args.circuit.now.configuration.extras c.args.delays.now c.args.numbering.now c.args.order.now c.requires.points
    (subst (IsOrderOf c.args.chip.now (bits_of c.args.circuit.now.configuration) c.args.circuit.now.configuration.extras) (sym c.requires.order) c.requires.circuit.ordered)
    c.loop-point.point-index _ c.loop-point-test.true

pub number-number-requires : goal.number-number-requires
number-number-requires c =
    order_numbered c.args.chip.now (bits_of c.args.circuit.now.configuration) c.args.circuit.now.configuration.extras c.args.delays.now c.args.numbering.now c.args.order.now c.requires.points
    (subst (IsOrderOf c.args.chip.now (bits_of c.args.circuit.now.configuration) c.args.circuit.now.configuration.extras) (sym c.requires.order) c.requires.circuit.ordered)
    c.loop-point.point-index _ c.loop-point-test.true

pub arrival-requires-clause-long : goal.arrival-requires-clause-long
arrival-requires-clause-long c = ap length c.deref.ensures.value ∙ c.loop-point.invariant.0.long

pub arrival-requires-clause-within : goal.arrival-requires-clause-within
arrival-requires-clause-within c =
    subst (AreWithin (2 ^ 63)) (sym c.deref.ensures.value) (well_within c.loop-point.point-index c.loop-point.at.items (omega arith) c.loop-point.invariant.0.within)

pub set_moment-requires : goal.set_moment-requires
set_moment-requires c =
    let lt = At_within c.args.numbering.now c.number-number.result _ c.number-number.ensures in
    let long = c.loop-point.invariant.0.long in
    omega (arith, lt, long)

pub loop-point-preserved : goal.loop-point-preserved
loop-point-preserved c =
    let point : Point = get_or c.args.order.now c.loop-point.point-index (Wire (record { 0 = 0 })) in (
      one_filled c.args.chip.now (bits_of c.args.circuit.now.configuration) c.args.circuit.now.configuration.extras c.args.delays.now c.args.numbering.now c.args.order.now c.requires.points
          (subst (IsOrderOf c.args.chip.now (bits_of c.args.circuit.now.configuration) c.args.circuit.now.configuration.extras) (sym c.requires.order) c.requires.circuit.ordered)
          c.loop-point.point-index c.loop-point.at.items c.set_moment.new.at.items point c.number-number.result c.in_ok-moment.moment c.loop-point.invariant.0
          (slice_get-get_or c.args.order.now c.loop-point.point-index (Wire (record { 0 = 0 })) c.loop-point-test.true) c.number-number.ensures
          (subst (λ at. IsReached c.args.chip.now (bits_of c.args.circuit.now.configuration) c.args.circuit.now.configuration.extras c.args.delays.now c.args.numbering.now at point c.in_ok-moment.moment) c.deref.ensures.value c.in_ok-moment.ensures.reached)
          (subst (λ at. IsSoon at c.in_ok-moment.moment) c.deref.ensures.value c.in_ok-moment.ensures.soon) c.set_moment.ensures,
      omega arith,
    )

pub returns-clause-filled : goal.returns-clause-filled
returns-clause-filled c =
    let all : c.loop-point.point-index ≡ length c.args.order.now = omega arith in
    subst (λ n. AreFilled c.args.chip.now (bits_of c.args.circuit.now.configuration) c.args.circuit.now.configuration.extras c.args.delays.now c.args.numbering.now c.args.order.now n c.loop-point.at.items) all c.loop-point.invariant.0

pub returns-clause-within : goal.returns-clause-within
returns-clause-within c = well_within c.loop-point.point-index c.loop-point.at.items (omega arith) c.loop-point.invariant.0.within
