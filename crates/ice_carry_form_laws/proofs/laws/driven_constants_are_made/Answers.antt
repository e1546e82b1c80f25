use Rattle.ice_carry_form_laws.proofs.Constants.{made}
use Rattle.ice_carry_form_laws.proofs.laws.driven_constants_are_made.Goals as goal

pub returns : goal.returns
returns c n = made n
