use Rattle.std.proofs.Common.{◌≡◌, length, drop}
use Rattle.ice_bits.specs.Configuration.{bits_of}
use Rattle.ice_back_points.specs.Filling.{filled}
use Rattle.ice_back_points.proofs.filling.fill.Given as goal

abbrev pub invariant-loop-point : goal.invariant-loop-point
invariant-loop-point l =
    (length l.roots ≡ length l.fn.roots)
    × (filled l.chip (bits_of l.circuit.configuration) l.circuit.configuration.extras l.pads.keys l.order l.fn.roots ≡ filled l.chip (bits_of l.circuit.configuration) l.circuit.configuration.extras l.pads.keys (drop l.point-index l.order) l.roots)
