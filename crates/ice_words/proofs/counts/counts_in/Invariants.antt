use Rattle.std.proofs.Common.{◌≡◌, ◌≤◌, drop, take, vec_capacity}
use Rattle.std.specs.Mem.Slots.{slots_items}
use Rattle.ice_words.proofs.counts.counts_in.Given as goal

abbrev pub invariant-loop-wire : goal.invariant-loop-wire
invariant-loop-wire l = record {
  items : l.room.items ≡ take l.wire (drop 3 (slots_items l.shut.words));
  room : l.wires ≤ vec_capacity l.room;
}
