use Rattle.std.proofs.Common.{◌≤◌, length}
use Rattle.ice_bits.specs.Configuration.{bits_of}
use Rattle.ice_timing.specs.Arriving.{AreFilled}
use Rattle.ice_timing.proofs.arrivals.moments.Given as goal

abbrev pub invariant-loop-point : goal.invariant-loop-point
invariant-loop-point l =
    AreFilled l.chip (bits_of l.circuit.configuration) l.circuit.configuration.extras l.delays l.numbering l.order l.point-index l.at.items × (l.point-index ≤ length l.order)
