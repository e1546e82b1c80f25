use Rattle.std.proofs.Common.{◌≡◌, ◌++◌, drop}
use Rattle.ice_place_defs.specs.Loads.{slots_give}
use Rattle.ice_emit_nets.specs.Ends.{cell_ends}
use Rattle.ice_emit_nets.proofs.cells.push_slots.Given as goal

abbrev pub invariant-loop-i : goal.invariant-loop-i
invariant-loop-i l = l.ends.items ++ slots_give (cell_ends l.chip) l.cells l.tile l.i (drop l.i l.slots) ≡ l.initial.ends.items ++ slots_give (cell_ends l.chip) l.cells l.tile 0 l.slots
