use Rattle.std.proofs.Common.{refl}
use Rattle.ice_carry_tails.proofs.laws.tailed_keep_ports.Goals as goal

pub returns : goal.returns
returns c n = refl
