use Rattle.std.proofs.Common.{◌∙◌, arith}
use Rattle.ice_carry_chains.proofs.Following.{globals_more, globals_end}
use Rattle.ice_carry_chains.proofs.follow.mark_globals.Goals as goal

pub loop-root-preserved : goal.loop-root-preserved
loop-root-preserved c = globals_more c.args.globals.now c.loop-root.root-index _ c.loop-root.marks.items _ (omega arith) c.mark.ensures ∙ c.loop-root.invariant

pub returns : goal.returns
returns c = globals_end c.args.globals.now c.loop-root.root-index c.loop-root.marks.items (omega arith) ∙ c.loop-root.invariant
