use Rattle.std.proofs.Common.{◌≡◌, drop}
use Rattle.ice_pads.specs.Globals.{globals, left}
use Rattle.ice_pads.proofs.choices.left.Given as goal

abbrev pub invariant-loop-number : goal.invariant-loop-number
invariant-loop-number l = left (drop l.number-index l.direct) l.free.items ≡ left l.direct (globals l.chip)
