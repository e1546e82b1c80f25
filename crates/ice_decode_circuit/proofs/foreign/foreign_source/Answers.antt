use Rattle.std.proofs.Common.{◌∙◌}
use Rattle.ice_decode_circuit.proofs.foreign.foreign_source.Goals as goal

pub first_foreign-requires-clause-foreign : goal.first_foreign-requires-clause-foreign
first_foreign-requires-clause-foreign c = c.deref.ensures.value ∙ c.in_ok-foreign.ensures
