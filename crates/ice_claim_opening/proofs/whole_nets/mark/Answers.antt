use Rattle.std.proofs.Common.{arith}
use Rattle.ice_claim_opening.proofs.Marking.{marked_more}
use Rattle.ice_claim_opening.proofs.whole_nets.mark.Goals as goal

pub loop-note-preserved : goal.loop-note-preserved
loop-note-preserved c =
    marked_more c.args.kept.now.items c.loop-note.kept.items c.mark_one.new.kept.items c.args.notes.now c.loop-note.note-index _ (omega (arith, c.loop-note-test.true)) c.loop-note.invariant c.mark_one.ensures.lost c.mark_one.ensures.kept
