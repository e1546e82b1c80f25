use Rattle.ice_carry_tails.specs.Ends.{tables_of}
use Rattle.ice_carry_tails.proofs.Ended.{can_take}
use Rattle.ice_carry_tails.proofs.laws.tailed_are_formed.Goals as goal

pub returns : goal.returns
returns c n formed few = c.tails_are_formed.ensures n (tables_of n) formed (can_take n) few
