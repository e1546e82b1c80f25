use Rattle.std.proofs.Common.{◌≡◌, ◌++◌, drop}
use Rattle.ice_anneal_nets.specs.Reads.{slots_reads}
use Rattle.ice_anneal_nets.proofs.reading.add_slots.Given as goal

abbrev pub invariant-loop-slot : goal.invariant-loop-slot
invariant-loop-slot l = l.reads.items ++ slots_reads l.cells l.node (drop l.slot-index l.slots) ≡ l.fn.reads.items ++ slots_reads l.cells l.node l.slots
