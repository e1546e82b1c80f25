use Rattle.ice_check_promote.proofs.NewSound.{promoted_sound}
use Rattle.ice_check_promote.proofs.laws.promoted_are_sound.Goals as goal

pub returns : goal.returns
returns c n outer free formed sound = promoted_sound n outer free formed sound
