use Rattle.std.proofs.Common.{◌≡◌, drop}
use Rattle.ice_decode.specs.FirstFaults.{foreign_extra}
use Rattle.ice_decode_circuit.proofs.extras.foreign_extra.Given as goal

abbrev pub invariant-loop-extra : goal.invariant-loop-extra
invariant-loop-extra l = foreign_extra l.chip l.extras ≡ foreign_extra l.chip (drop l.extra-index l.extras)
