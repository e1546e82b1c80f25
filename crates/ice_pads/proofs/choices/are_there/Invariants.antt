use Rattle.std.proofs.Common.{◌≡◌, take, map}
use Rattle.ice_pads.specs.Globals.{is_there}
use Rattle.ice_pads.proofs.choices.are_there.Given as goal

abbrev pub invariant-loop-number : goal.invariant-loop-number
invariant-loop-number l = l.there.items ≡ map is_there (take l.number-index l.numbers)
