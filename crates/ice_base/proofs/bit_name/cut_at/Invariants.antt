use Rattle.std.proofs.Common.{◌≡◌, drop, option_map}
use Rattle.ice_base.specs.Places.{cut_at}
use Rattle.ice_base.proofs.BitCuts.{behind_front}
use Rattle.ice_base.proofs.bit_name.cut_at.Given as goal

abbrev pub invariant-loop-i : goal.invariant-loop-i
invariant-loop-i l = cut_at l.byte l.bytes ≡ option_map (behind_front l.bytes l.i) (cut_at l.byte (drop l.i l.bytes))
