use Rattle.ice_bits.proofs.Forms.{places_are}
use Rattle.ice_bits.proofs.laws.chip_has_its_bits.Goals as goal

pub returns : goal.returns
returns c = places_are
