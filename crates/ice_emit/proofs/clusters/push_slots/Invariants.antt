use Rattle.std.proofs.Common.{◌≡◌, ◌++◌, drop}
use Rattle.ice_place_defs.specs.Loads.{slots_give}
use Rattle.ice_emit_defs.specs.Functions.{cell_settings}
use Rattle.ice_emit.specs.Routed.{held_in}
use Rattle.ice_emit_settings.specs.Views.{views}
use Rattle.ice_emit.proofs.clusters.push_slots.Given as goal

abbrev pub invariant-loop-i : goal.invariant-loop-i
invariant-loop-i l =
    views l.made.items ++ slots_give (cell_settings l.fn.routed.placed.chip.now (held_in l.fn.routed)) l.fn.routed.placed.design.now.cells l.tile l.i (drop l.i l.slots)
    ≡ views l.initial.made.items ++ slots_give (cell_settings l.fn.routed.placed.chip.now (held_in l.fn.routed)) l.fn.routed.placed.design.now.cells l.tile 0 l.slots
