-- What a call that makes a chip answers.
use Rattle.std.specs.Prelude.{◌≡◌, Option, None, Some, Result, Ok, Err}
use Rattle.ice_chip.specs.Database.{Parts}
use Rattle.ice_chip.specs.Whole.{whole_fault}
use Rattle.ice_chip.specs.declared.fault.ChipFault.{ChipFault}
use Rattle.ice_chip.specs.declared.fault.ChipFault.TheVariants.{NoMemory}

-- want of memory may come at any time, and every other fault is what is said
abbrev pub StopsBy : ChipFault → Result Parts ChipFault → Type 0
StopsBy NoMemory said = Unit {0}
StopsBy fault said = said ≡ Err fault

-- the chip, or the fault, that is said, unless memory ran out
abbrev pub Answers : Result Parts ChipFault → Result Parts ChipFault → Type 0
Answers (Ok parts) said = said ≡ Ok parts
Answers (Err fault) said = StopsBy fault said

abbrev pub unless_fault : Parts → Option ChipFault → Result Parts ChipFault
unless_fault parts None = Ok parts
unless_fault parts (Some fault) = Err fault

-- the rows where no fault of the whole is in them, or the first such fault
abbrev pub chip_of : Parts → Result Parts ChipFault
chip_of parts = unless_fault parts (whole_fault parts)
