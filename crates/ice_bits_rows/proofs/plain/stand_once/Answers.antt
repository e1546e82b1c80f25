use Rattle.std.proofs.Common.{sym, ◌∙◌}
use Rattle.ice_bits_rows.proofs.Own.{rises_once}
use Rattle.ice_bits_rows.proofs.plain.stand_once.Goals as goal

pub returns-then-are_rising : goal.returns-then-are_rising
returns-then-are_rising c = sym (rises_once 0 c.args.bits.now (sym c.are_rising.ensures ∙ c.if-are_rising.true))
