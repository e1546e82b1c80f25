use Rattle.ice_chip_laws.proofs.PinsFirst.{pin_is_first}
use Rattle.ice_chip_laws.proofs.fault_laws.shared_pin_is_first.Goals as goal

pub returns : goal.returns
returns c = pin_is_first
