use Rattle.std.proofs.Common.{◌≡◌, ◌<◌, drop}
use Rattle.ice_blif.specs.Parameters.{bits_from}
use Rattle.ice_blif.proofs.parameter.bits_from.Given as goal

abbrev pub invariant-loop-i : goal.invariant-loop-i
invariant-loop-i l = (bits_from l.limit 0 l.word ≡ bits_from l.limit l.number (drop l.i l.word)) × (l.number < l.limit)
