use Rattle.std.proofs.Common.{take}
use Rattle.ice_claim_opening.specs.Marks.{AreMarked}
use Rattle.ice_claim_opening.proofs.whole_nets.mark.Given as goal

abbrev pub invariant-loop-note : goal.invariant-loop-note
invariant-loop-note l = AreMarked l.fn.kept.items (take l.note-index l.notes) l.kept.items
