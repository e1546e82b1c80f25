use Rattle.std.proofs.Common.{◌∙◌}
use Rattle.ice_cells.specs.Packed.{packed}
use Rattle.ice_carry_form_laws.proofs.Forming.{is_before, reads_within}
use Rattle.ice_carry_form_laws.proofs.laws.designs_show_the_same.Goals as goal

pub returns : goal.returns
returns c n order sound levels =
    c.runs_show_the_same.ensures (packed n) (is_before n (c.packed_netlists_have_values.ensures n order sound)) (reads_within n) levels
    ∙ c.packed_netlists_show_the_same.ensures n order sound levels
