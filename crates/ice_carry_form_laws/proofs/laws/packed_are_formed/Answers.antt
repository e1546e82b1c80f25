use Rattle.ice_carry_form_laws.proofs.Forming.{is_formed}
use Rattle.ice_carry_form_laws.proofs.laws.packed_are_formed.Goals as goal

pub returns : goal.returns
returns c n formed sound = is_formed n formed sound
