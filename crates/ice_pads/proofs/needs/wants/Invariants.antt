use Rattle.std.proofs.Common.{◌≡◌, take, map}
use Rattle.ice_pads.specs.Wants.{want_at}
use Rattle.ice_pads.proofs.needs.wants.Given as goal

abbrev pub invariant-loop-pad : goal.invariant-loop-pad
invariant-loop-pad l = l.found.items ≡ map want_at (take l.pad-index l.pad-items)
