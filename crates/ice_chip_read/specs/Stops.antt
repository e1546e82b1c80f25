-- Why reading stops, as a fault of the chip.
use Rattle.ice_chip.specs.declared.fault.ChipFault.{ChipFault}
use Rattle.ice_chip.specs.declared.fault.ChipFault.TheVariants as chip
use Rattle.ice_chip_read.specs.declared.fault.ChipStop.{ChipStop}
use Rattle.ice_chip_read.specs.declared.fault.ChipStop.TheVariants.{NoMemory, Fault}

abbrev pub fault_of : ChipStop → ChipFault
fault_of NoMemory = chip.NoMemory
fault_of (Fault fault) = fault
