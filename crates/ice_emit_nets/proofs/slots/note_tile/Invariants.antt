use Rattle.std.proofs.Common.{◌≡◌, drop}
use Rattle.ice_emit_nets.specs.Slots.{noted, tile_slots}
use Rattle.ice_emit_nets.proofs.slots.note_tile.Given as goal

abbrev pub invariant-loop-i : goal.invariant-loop-i
invariant-loop-i l = noted l.slots.items (tile_slots l.tile l.i (drop l.i l.cells)) ≡ noted l.initial.slots.items (tile_slots l.tile 0 l.cells)
