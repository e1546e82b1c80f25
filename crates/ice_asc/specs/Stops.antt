-- The fault that a stop is told as.
use Rattle.ice_asc.specs.declared.fault.AscFault.{AscFault}
use Rattle.ice_asc.specs.declared.fault.AscFault.TheVariants as fault
use Rattle.ice_asc.specs.declared.fault.AscStop.{AscStop}
use Rattle.ice_asc.specs.declared.fault.AscStop.TheVariants.{NoMemory, Fault}

abbrev pub fault_of : AscStop → AscFault
fault_of NoMemory = fault.NoMemory
fault_of (Fault known) = known
