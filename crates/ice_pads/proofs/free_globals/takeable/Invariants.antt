use Rattle.std.proofs.Common.{◌≡◌, ◌++◌, drop, filter}
use Rattle.ice_pads.specs.Globals.{is_global}
use Rattle.ice_pads.proofs.free_globals.takeable.Given as goal

abbrev pub invariant-loop-number : goal.invariant-loop-number
invariant-loop-number l = l.found.items ++ filter (is_global l.chip) (drop l.number-index l.numbers) ≡ filter (is_global l.chip) l.numbers
