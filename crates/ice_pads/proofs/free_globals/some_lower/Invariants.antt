use Rattle.std.proofs.Common.{◌≡◌, false}
use Rattle.ice_pads.specs.Globals.{some_lower}
use Rattle.ice_pads.proofs.free_globals.some_lower.Given as goal

abbrev pub invariant-loop-lower : goal.invariant-loop-lower
invariant-loop-lower l = some_lower l.chip l.lower l.tile ≡ false
