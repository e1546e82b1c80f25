use Rattle.std.proofs.Common.{◌≡◌, drop}
use Rattle.ice_decode.specs.Direct.{is_set_among}
use Rattle.ice_decode_circuit.proofs.extras.is_set_among.Given as goal

abbrev pub invariant-loop-extra : goal.invariant-loop-extra
invariant-loop-extra l = is_set_among l.extras l.own ≡ is_set_among (drop l.extra-index l.extras) l.own
