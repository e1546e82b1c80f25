use Rattle.std.proofs.Common.{refl}
use Rattle.ice_check_promote.proofs.laws.promoted_keep_ports.Goals as goal

pub returns : goal.returns
returns c n outer free = refl
