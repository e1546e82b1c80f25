use Rattle.std.proofs.Common.{◌≡◌, ◌++◌, map, drop}
use Rattle.ice_base.specs.declared.number.WireNo.{WireNo}
use Rattle.ice_decode.specs.Loops.{wires_among}
use Rattle.ice_decode_circuit.proofs.evaluation.wires_among.Given as goal

abbrev pub invariant-loop-point : goal.invariant-loop-point
invariant-loop-point l = wires_among l.points ≡ map (λ (w : WireNo). w.0) l.wires.items ++ wires_among (drop l.point-index l.points)
