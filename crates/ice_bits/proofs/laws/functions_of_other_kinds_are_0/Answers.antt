use Rattle.ice_bits.proofs.OtherKinds.{others_are_zero}
use Rattle.ice_bits.proofs.laws.functions_of_other_kinds_are_0.Goals as goal

pub returns : goal.returns
returns c = others_are_zero
