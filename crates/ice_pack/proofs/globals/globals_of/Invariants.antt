use Rattle.std.proofs.Common.{◌≡◌, ◌++◌, drop}
use Rattle.ice_cells.specs.Packed.{globals_of}
use Rattle.ice_pack_sinks.specs.Plans.{plan}
use Rattle.ice_pack.proofs.globals.globals_of.Given as goal

abbrev pub invariant-loop-cell : goal.invariant-loop-cell
invariant-loop-cell l = l.found.items ++ globals_of (plan l.slices) (drop l.cell-index l.cells) ≡ globals_of (plan l.slices) l.cells
