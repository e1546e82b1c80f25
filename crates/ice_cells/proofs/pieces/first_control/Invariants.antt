use Rattle.std.proofs.Common.{◌≡◌, drop}
use Rattle.ice_cells.specs.Pieces.{first_control}
use Rattle.ice_cells.proofs.pieces.first_control.Given as goal

abbrev pub invariant-loop-c : goal.invariant-loop-c
invariant-loop-c l = first_control l.cells (drop l.c-index l.members) ≡ first_control l.cells l.members
