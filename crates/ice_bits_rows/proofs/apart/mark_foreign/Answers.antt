use Rattle.ice_bits_rows.proofs.Marking.{marks_none}
use Rattle.ice_bits_rows.proofs.apart.mark_foreign.Goals as goal

pub loop-bit-init : goal.loop-bit-init
loop-bit-init c = marks_none c.args.marks.now.items
