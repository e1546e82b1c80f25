use Rattle.std.proofs.Common.{◌≡◌, map, take, Some}
use Rattle.std.specs.Prelude.{slice_get}
use Rattle.ice_bits.specs.Configuration.{bits_of}
use Rattle.ice_decode.specs.Reads.{depends_on}
use Rattle.ice_decode_circuit.proofs.evaluation.graph_of_points.Given as goal

abbrev pub invariant-loop-point : goal.invariant-loop-point
invariant-loop-point l =
    map (λ row. map (slice_get l.numbering) row) l.graph ≡ map (λ p. map (λ q. Some q) (depends_on l.chip (bits_of l.bits) l.bits.extras p)) (take l.point-index l.numbering)
