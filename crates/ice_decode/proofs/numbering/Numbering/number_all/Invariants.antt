use Rattle.std.proofs.Common.{◌≡◌, map, take, Some}
use Rattle.std.specs.Prelude.{slice_get}
use Rattle.ice_base_values.specs.System.{present}
use Rattle.ice_decode.proofs.numbering.Numbering.number_all.Given as goal

abbrev pub invariant-loop-read : goal.invariant-loop-read
invariant-loop-read l = map (slice_get l.self) l.row.items ≡ map (λ p. Some p) (present (take l.read-index l.reads))
