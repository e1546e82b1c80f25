use Rattle.std.proofs.Common.{◌≡◌, take, map}
use Rattle.ice_cells.specs.Packed.{cell_of}
use Rattle.ice_pack_sinks.specs.Plans.{plan}
use Rattle.ice_pack_sinks.proofs.cells.cells_by.Given as goal

abbrev pub invariant-loop-j : goal.invariant-loop-j
invariant-loop-j l = l.made.items ≡ map (cell_of (plan l.slices) l.cells) (take l.j-index l.openers)
