use Rattle.ice_bits.proofs.TileKinds.{kinds_are}
use Rattle.ice_bits.proofs.laws.chip_has_its_kinds.Goals as goal

pub returns : goal.returns
returns c = kinds_are
