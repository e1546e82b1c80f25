use Rattle.std.proofs.Common.{◌≡◌, drop}
use Rattle.ice_decode.specs.Direct.{is_own_among}
use Rattle.ice_decode_circuit.proofs.extras.is_own_among.Given as goal

abbrev pub invariant-loop-padin : goal.invariant-loop-padin
invariant-loop-padin l = is_own_among l.own l.extra ≡ is_own_among (drop l.padin-index l.own) l.extra
