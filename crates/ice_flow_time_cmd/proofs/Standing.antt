-- Delays that are refused.
use Rattle.std.proofs.Common.{◌≡◌, ℕ, List, Err, sym, subst}
use Rattle.ice_chip.specs.Database.{PackageRows}
use Rattle.ice_timing_delays.specs.declared.delays.Delays.{Delays}
use Rattle.ice_timing_delays.specs.DelayTexts.{delays_of}
use Rattle.ice_timing_delays.specs.declared.fault.DelayFault.{DelayFault}
use Rattle.ice_timing_delays.specs.declared.fault.DelayFault.TheVariants.{BadLine}
use Rattle.ice_flow_frame.specs.declared.cause.Cause.{Cause}
use Rattle.ice_flow_frame.specs.Commands.{IsDone, IsRefusal}
use Rattle.ice_flow_frame.proofs.Standings.{at_fault}
use Rattle.ice_flow_time_cmd.specs.Timings.{delays_cause, DelaysStand}

-- a text of delays that is refused
pub delays_refused : (text : List ℕ) (bonded : PackageRows) (fault : DelayFault) (cause : Cause) → delays_of text ≡ Err fault → cause ≡ delays_cause fault → IsRefusal (DelaysStand text bonded) cause
delays_refused text bonded (BadLine line) cause said same =
    subst (IsRefusal (DelaysStand text bonded)) (sym same) (at_fault (delays_of text) delays_cause (λ delays. IsDone) (BadLine line) said, tt)
