use Rattle.std.proofs.Common.{◌≡◌, map, take, Some}
use Rattle.std.specs.Prelude.{slice_get}
use Rattle.ice_decode.proofs.numbering.Numbering.points_at.Given as goal

abbrev pub invariant-loop-number : goal.invariant-loop-number
invariant-loop-number l = map (λ p. Some p) l.points.items ≡ map (slice_get l.self) (take l.number-index l.numbers)
