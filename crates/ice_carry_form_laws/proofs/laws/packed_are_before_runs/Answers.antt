use Rattle.ice_carry_form_laws.proofs.Forming.{is_before}
use Rattle.ice_carry_form_laws.proofs.laws.packed_are_before_runs.Goals as goal

pub returns : goal.returns
returns c n values = is_before n values
