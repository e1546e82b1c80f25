use Rattle.std.proofs.Common.{◌≡◌, drop}
use Rattle.ice_pads.specs.Globals.{is_taken}
use Rattle.ice_pads.proofs.direct.is_taken.Given as goal

abbrev pub invariant-loop-other : goal.invariant-loop-other
invariant-loop-other l = is_taken l.taken l.number ≡ is_taken (drop l.other-index l.taken) l.number
