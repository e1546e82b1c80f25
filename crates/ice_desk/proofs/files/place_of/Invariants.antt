use Rattle.std.proofs.Common.{◌≡◌, drop}
use Rattle.ice_desk.specs.Memory.{place_from}
use Rattle.ice_desk.proofs.files.place_of.Given as goal

abbrev pub invariant-loop-i : goal.invariant-loop-i
invariant-loop-i l = place_from 0 l.files l.name ≡ place_from l.i (drop l.i l.files) l.name
