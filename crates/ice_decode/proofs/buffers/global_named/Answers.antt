use Rattle.std.proofs.Common.{Bool, None, Some, cond, ap, sym, ◌∙◌}
use Rattle.ice_decode.specs.GlobalNames.{if_named}
use Rattle.ice_decode.proofs.FirstOf.{first_here, first_none}
use Rattle.ice_decode.proofs.buffers.global_named.Goals as goal

pub returns-then-has_global : goal.returns-then-has_global
returns-then-has_global c =
    sym (c.loop-global.invariant
    ∙ first_here (if_named c.args.chip.now c.args.tile c.args.wire.0) 8 c.loop-global.global c.loop-global.global c.loop-global-test.true
    (ap (λ (b : Bool). cond b (Some c.loop-global.global) None) (sym c.has_global.ensures ∙ c.if-has_global.true)))

pub returns : goal.returns
returns c =
    sym (c.loop-global.invariant ∙ first_none (if_named c.args.chip.now c.args.tile c.args.wire.0) 8 c.loop-global.global c.loop-global-test.false)
