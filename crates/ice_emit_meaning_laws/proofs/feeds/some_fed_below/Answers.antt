use Rattle.std.proofs.Common.{sym, ◌∙◌, arith}
use Rattle.ice_emit_meaning_laws.proofs.Feeding.{fed_below}
use Rattle.ice_emit_meaning_laws.proofs.feeds.some_fed_below.Goals as goal

pub returns-then-is_fed_by_global : goal.returns-then-is_fed_by_global
returns-then-is_fed_by_global c =
    sym (fed_below c.args.chip.now c.loop-lower.lower c.args.number (omega arith) (sym c.is_fed_by_global.ensures ∙ c.if-is_fed_by_global.true))
