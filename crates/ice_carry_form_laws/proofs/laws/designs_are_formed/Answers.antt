use Rattle.ice_cells.specs.Packed.{packed}
use Rattle.ice_carry_form_laws.proofs.Forming.{is_before, reads_within, is_formed}
use Rattle.ice_carry_form_laws.proofs.laws.designs_are_formed.Goals as goal

pub returns : goal.returns
returns c n order sound =
    c.runs_are_formed.ensures (packed n) (is_before n (c.packed_netlists_have_values.ensures n order sound)) (reads_within n) (is_formed n sound.formed sound.sound)
