use Rattle.std.proofs.Common.{◌≡◌, take, map}
use Rattle.ice_emit_nets.specs.Rooted.{slot_no}
use Rattle.ice_emit_nets.proofs.wires.slot_wires.Given as goal

abbrev pub invariant-loop-slot : goal.invariant-loop-slot
invariant-loop-slot l = l.wires.items ≡ map (slot_no l.chip) (take l.slot-index l.slots)
