use Rattle.std.proofs.Common.{◌≡◌, ◌-◌, length}
use Rattle.std.specs.Prelude.{slice_index_or}
use Rattle.ice_decode.specs.declared.driver.Driver.TheVariants.{Nothing}
use Rattle.ice_decode.specs.FirstFaults.{contended_by, first_of}
use Rattle.ice_decode.specs.Tables.{contended_among}
use Rattle.ice_decode_circuit.proofs.contended.contention.Given as goal

abbrev pub invariant-loop-wire : goal.invariant-loop-wire
invariant-loop-wire l = contended_among l.drivers ≡ first_of (λ w. contended_by w (slice_index_or l.drivers w Nothing)) l.wire (length l.drivers - l.wire)
