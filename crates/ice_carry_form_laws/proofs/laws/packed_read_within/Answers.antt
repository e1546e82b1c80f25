use Rattle.ice_carry_form_laws.proofs.Forming.{reads_within}
use Rattle.ice_carry_form_laws.proofs.laws.packed_read_within.Goals as goal

pub returns : goal.returns
returns c n = reads_within n
