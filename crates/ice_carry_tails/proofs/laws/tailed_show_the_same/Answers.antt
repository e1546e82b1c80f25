use Rattle.ice_carry_tails.specs.Ends.{tables_of}
use Rattle.ice_carry_tails.proofs.Ended.{can_take}
use Rattle.ice_carry_tails.proofs.laws.tailed_show_the_same.Goals as goal

pub returns : goal.returns
returns c n formed levels = c.tails_show_the_same.ensures n (tables_of n) formed (can_take n) levels
