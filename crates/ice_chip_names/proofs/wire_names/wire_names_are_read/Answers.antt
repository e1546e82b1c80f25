use Rattle.ice_chip_names.proofs.WireNamesRead.{wire_names_read}
use Rattle.ice_chip_names.proofs.wire_names.wire_names_are_read.Goals as goal

pub returns : goal.returns
returns c = wire_names_read
