use Rattle.std.proofs.Common.{◌∙◌, arith}
use Rattle.ice_carry_chains.proofs.Feeding.{runs_more, runs_end}
use Rattle.ice_carry_chains.proofs.run.build_runs.Goals as goal

pub loop-c-preserved : goal.loop-c-preserved
loop-c-preserved c =
    runs_more c.args.marks.now c.args.heads.now c.loop-c.c-index _ c.loop-c.number _ _ c.loop-c.runs.items _ _ (omega arith) c.in_ok-to_u32.ensures c.in_ok-run.ensures.run c.in_ok-run.ensures.behind c.in_ok-push.ensures.items
    ∙ c.loop-c.invariant

pub returns : goal.returns
returns c = runs_end c.args.marks.now c.args.heads.now c.loop-c.c-index c.loop-c.number c.loop-c.runs.items (omega arith) ∙ c.loop-c.invariant
