use Rattle.std.proofs.Common.{◌≡◌, drop, map}
use Rattle.ice_cells.specs.Readings.{plain}
use Rattle.ice_cells.specs.Follows.{marked}
use Rattle.ice_carry_chains.proofs.follow.mark_globals.Given as goal

abbrev pub invariant-loop-root : goal.invariant-loop-root
invariant-loop-root l = marked l.marks.items (map plain (drop l.root-index l.globals)) ≡ marked l.initial.marks.items (map plain l.globals)
