use Rattle.std.proofs.Common.{ℕ}
use Rattle.std.specs.Prelude.{reverse}
use Rattle.ice_base_values.specs.Order.{Has}
use Rattle.ice_bits.specs.Configuration.{bits_of}
use Rattle.ice_timing.specs.PointDelays.{IsArrivalAt}
use Rattle.ice_timing.proofs.Walked.{IsWalked}
use Rattle.ice_timing.proofs.longest_path.points_back.Given as goal

abbrev pub invariant-loop-step : goal.invariant-loop-step
invariant-loop-step l =
    (long : ℕ) → IsArrivalAt l.chip (bits_of l.circuit.configuration) l.circuit.configuration.extras l.delays l.fn.last long
    → IsWalked l.chip (bits_of l.circuit.configuration) l.circuit.configuration.extras l.delays l.circuit.order l.fn.last long l._step-index l.point (reverse l.points.items)
