use Rattle.ice_chip_laws.proofs.TwiceFirst.{name_is_first}
use Rattle.ice_chip_laws.proofs.fault_laws.name_of_two_wires_is_first.Goals as goal

pub returns : goal.returns
returns c = name_is_first
