-- What the reading of a text of bits answers.
use Rattle.std.specs.Prelude.{◌≡◌, Result, Ok, Err}
use Rattle.ice_bits.specs.Configuration.{Configuration}
use Rattle.ice_asc.specs.declared.fault.AscFault.{AscFault}
use Rattle.ice_asc.specs.declared.fault.AscFault.TheVariants.{NoMemory}

-- want of memory may come at any time, and every other fault is what is said
abbrev pub StopsBy : AscFault → Result Configuration AscFault → Type 0
StopsBy NoMemory said = Unit {0}
StopsBy fault said = said ≡ Err fault

-- the bits, or the fault, that are said, unless memory ran out
abbrev pub Answers : Result Configuration AscFault → Result Configuration AscFault → Type 0
Answers (Ok bits) said = said ≡ Ok bits
Answers (Err fault) said = StopsBy fault said
