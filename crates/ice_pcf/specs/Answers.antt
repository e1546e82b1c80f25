-- What a reader answers of what the definition says.
use Rattle.std.specs.Prelude.{◌≡◌, ◌≢◌, Result, Ok, Err}
use Rattle.ice_pcf.specs.declared.fault.PcfFault.{PcfFault}
use Rattle.ice_pcf.specs.declared.fault.PcfFault.TheVariants.{NoMemory}

-- the answer is exactly what the definition says, unless memory ran out
abbrev pub Gives : {X : Type 0} → Result X PcfFault → Result X PcfFault → Type 0
Gives (Ok value) said = said ≡ Ok value
Gives (Err fault) said = fault ≢ NoMemory → said ≡ Err fault
