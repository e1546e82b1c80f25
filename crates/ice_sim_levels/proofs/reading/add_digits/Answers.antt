use Rattle.std.proofs.Common.{arith, sym, ◌∙◌}
use Rattle.ice_sim_levels.proofs.Digits.{digits_more}
use Rattle.ice_sim_levels.proofs.reading.add_digits.Goals as goal

pub loop-digit-preserved : goal.loop-digit-preserved
loop-digit-preserved c =
    digits_more _ c.loop-digit.levels.items c.push.new.self.items c.args.word.now c.loop-digit.digit-index _ c.in-Some.level (omega arith) c.loop-digit.invariant c.in_ok-push.ensures.items
    (sym c.digit_level.ensures ∙ c.in-Some.is)
