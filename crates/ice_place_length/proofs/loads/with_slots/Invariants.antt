use Rattle.std.proofs.Common.{◌≡◌, drop}
use Rattle.ice_place_defs.specs.Loads.{slots_give, cell_loads}
use Rattle.ice_place_length.specs.Grown.{box_in, grown}
use Rattle.ice_place_length.proofs.loads.with_slots.Given as goal

abbrev pub invariant-loop-i : goal.invariant-loop-i
invariant-loop-i l = grown l.root (box_in l.wide) (slots_give cell_loads l.cells l.tile l.i (drop l.i l.slots)) ≡ grown l.root (box_in l.fn.span) (slots_give cell_loads l.cells l.tile 0 l.slots)
