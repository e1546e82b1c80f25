use Rattle.ice_chip_read_laws.proofs.Named.{pins_named}
use Rattle.ice_chip_read_laws.proofs.laws.pins_are_words.Goals as goal

pub returns : goal.returns
returns c = pins_named
