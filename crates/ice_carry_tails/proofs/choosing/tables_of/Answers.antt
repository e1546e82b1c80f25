use Rattle.std.proofs.Common.{◌∙◌}
use Rattle.ice_carry_tails.proofs.Ended.{chain_of, ends_of}
use Rattle.ice_carry_tails.proofs.choosing.tables_of.Goals as goal

pub free_of-requires-clause-below : goal.free_of-requires-clause-below
free_of-requires-clause-below c = chain_of c.args.sound.now c.deref-2.result.now (c.deref-2.ensures.value ∙ c.in_ok-ends.ensures)

pub own_ends-requires-clause-below : goal.own_ends-requires-clause-below
own_ends-requires-clause-below c =
    ends_of c.args.sound.now c.deref-2.result.now c.deref-4.result.now (c.deref-2.ensures.value ∙ c.in_ok-ends.ensures) (c.deref-4.ensures.value ∙ c.in_ok-free.ensures)
