use Rattle.ice_cells.specs.Packed.{packed}
use Rattle.ice_carry_form_laws.proofs.Few.{reads_few}
use Rattle.ice_carry_form_laws.proofs.Forming.{is_before}
use Rattle.ice_carry_form_laws.proofs.laws.designs_read_few.Goals as goal

pub returns : goal.returns
returns c = λ n order sound. reads_few n sound.formed (is_before n (c.packed_netlists_have_values.ensures n order sound))
