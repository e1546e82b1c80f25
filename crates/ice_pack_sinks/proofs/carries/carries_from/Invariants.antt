use Rattle.std.proofs.Common.{◌≡◌, ◌++◌, drop}
use Rattle.ice_cells.specs.Packed.{carries_from}
use Rattle.ice_pack_sinks.specs.Plans.{plan}
use Rattle.ice_pack_sinks.proofs.carries.carries_from.Given as goal

abbrev pub invariant-loop-j : goal.invariant-loop-j
invariant-loop-j l = l.carries.items ++ carries_from (plan l.slices) l.homes l.j (drop l.j l.cells) ≡ carries_from (plan l.slices) l.homes 0 l.cells
