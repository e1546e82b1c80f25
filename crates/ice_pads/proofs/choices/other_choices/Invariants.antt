use Rattle.std.proofs.Common.{◌≡◌, ◌++◌, drop}
use Rattle.ice_pads.specs.Globals.{other_choices}
use Rattle.ice_pads.proofs.choices.other_choices.Given as goal

abbrev pub invariant-loop-number : goal.invariant-loop-number
invariant-loop-number l = l.globals.items ++ other_choices (drop l.number-index l.taken) (drop l.next l.free) ≡ other_choices l.taken l.free
