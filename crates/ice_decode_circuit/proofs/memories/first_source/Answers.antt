use Rattle.std.proofs.Common.{◌∙◌}
use Rattle.ice_decode_circuit.proofs.memories.first_source.Goals as goal

pub first_noted-requires-clause-memories : goal.first_noted-requires-clause-memories
first_noted-requires-clause-memories c = c.deref.ensures.value ∙ c.in_ok-memories.ensures
