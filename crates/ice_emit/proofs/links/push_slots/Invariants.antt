use Rattle.std.proofs.Common.{◌≡◌, ◌++◌, drop}
use Rattle.ice_place_defs.specs.Loads.{slots_give}
use Rattle.ice_emit_defs.specs.Links.{cell_links}
use Rattle.ice_emit_settings.specs.Views.{switches}
use Rattle.ice_emit.proofs.links.push_slots.Given as goal

abbrev pub invariant-loop-i : goal.invariant-loop-i
invariant-loop-i l =
    switches l.fn.index.chip.now l.rows.items ++ slots_give (cell_links l.fn.index.chip.now) l.cells l.tile l.i (drop l.i l.slots) ≡ switches l.fn.index.chip.now l.initial.rows.items ++ slots_give (cell_links l.fn.index.chip.now) l.cells l.tile 0 l.slots
