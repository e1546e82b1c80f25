use Rattle.std.proofs.Common.{◌≡◌, drop}
use Rattle.ice_cells.specs.Uses.{cells_read, marked}
use Rattle.ice_pack_share.proofs.marking.mark_cells.Given as goal

abbrev pub invariant-loop-j : goal.invariant-loop-j
invariant-loop-j l = marked l.uses.items (cells_read l.origins l.j (drop l.j l.cells)) ≡ marked l.initial.uses.items (cells_read l.origins 0 l.cells)
