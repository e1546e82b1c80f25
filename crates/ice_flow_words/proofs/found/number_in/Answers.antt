use Rattle.std.proofs.Common.{rules}
use Rattle.ice_flow_words.proofs.Numbers.{in_range, no_numeral}
use Rattle.ice_flow_words.proofs.found.number_in.Goals as goal

pub returns-then-number-most-clause-value : goal.returns-then-number-most-clause-value
returns-then-number-most-clause-value c = in_range c.args.least c.args.most c.in-Ok.number c.args.text.now c.in-Ok.ensures.value.0 (search rules) (search rules)

pub returns-in-Err-clause-value : goal.returns-in-Err-clause-value
returns-in-Err-clause-value c = no_numeral c.args.least c.args.most c.args.text.now c.in-Err.ensures.value.0
