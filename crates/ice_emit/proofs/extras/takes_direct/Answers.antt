use Rattle.std.proofs.Common.{false, sym, ◌∙◌, arith}
use Rattle.ice_emit.proofs.ExtraBits.{taken_here, taken_next, taken_none}
use Rattle.ice_emit.proofs.extras.takes_direct.Goals as goal

pub loop-k-preserved : goal.loop-k-preserved
loop-k-preserved c =
    taken_next c.args.globals.now c.args.direct.now c.args.number c.loop-k.k 0 false _ (omega arith) (omega arith) (sym c.takes_at.ensures ∙ c.if-takes_at.false) c.loop-k.invariant

pub returns-then-takes_at : goal.returns-then-takes_at
returns-then-takes_at c =
    taken_here c.args.globals.now c.args.direct.now c.args.number c.loop-k.k 0 false _ (omega arith) (omega arith) (sym c.takes_at.ensures ∙ c.if-takes_at.true) c.loop-k.invariant

pub returns : goal.returns
returns c = taken_none c.args.globals.now c.args.direct.now c.args.number c.loop-k.k _ (omega arith) c.loop-k.invariant
