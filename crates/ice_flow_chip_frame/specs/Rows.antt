-- When a command that reads a chip text, a text of bits and the name of a package refuses them: only where the cause is true, and always
-- there, unless the desk or the memory fails.
use Rattle.std.specs.Prelude.{◌≡◌, ℕ, Bool, List}
use Rattle.ice_desk.specs.Desk.{Meaning}
use Rattle.ice_chip.specs.declared.fault.ChipFault.{ChipFault}
use Rattle.ice_asc.specs.declared.fault.AscFault.{AscFault}
use Rattle.ice_decode.specs.declared.fault.DecodeFault.{DecodeFault}
use Rattle.ice_pads.specs.declared.fault.PinFault.TheVariants as pin_fault
use Rattle.ice_flow_frame.specs.declared.cause.Cause.{Cause}
use Rattle.ice_flow_frame.specs.declared.cause.Cause.TheVariants.{BadChip, BadPin, BadAsc, BadBits}
use Rattle.ice_flow_frame.specs.Commands.{Command}
use Rattle.ice_flow_frame.specs.Rows.{ComesExactly}
use Rattle.ice_flow_frame.specs.Texts.{OfTexts}
use Rattle.ice_flow_chip_frame.specs.Standing.{HasChipFault, HasAscFault, LacksPackage, IsFaulty, IsBadBits}

-- status 5: exactly where the chip text has a fault, with the first one
abbrev pub ChipRow : Command → Meaning → Cause → Type 0
ChipRow k old cause = (fault : ChipFault) → ComesExactly k old (λ c. c ≡ BadChip fault) (HasChipFault fault) cause

-- status 14: exactly where there is a chip and the text of bits has a fault, with the first one
abbrev pub AscRow : Command → Meaning → Cause → Type 0
AscRow k old cause = (fault : AscFault) → ComesExactly k old (λ c. c ≡ BadAsc fault) (HasAscFault fault) cause

-- status 7: exactly where there are a chip and bits of it, and the chip has no package of the name
abbrev pub PackageRow : Command → List ℕ → Meaning → Cause → Type 0
PackageRow k name old cause = ComesExactly k old (λ c. c ≡ BadPin pin_fault.NoPackage) (LacksPackage name) cause

abbrev pub IsBitsFault : Cause → Type 0
IsBitsFault cause = (fault : DecodeFault) × (cause ≡ BadBits fault)

-- status 15: exactly where the bits have a fault, with one that they have and that is looked for before the others
pub record BitsRow (rams : Bool) (k : Command) (name : List ℕ) (old : Meaning) (cause : Cause) : Type 0 where
  pub comes : ComesExactly k old IsBitsFault (IsFaulty rams name) cause
  pub fault_is : (fault : DecodeFault) → cause ≡ BadBits fault → OfTexts k.files old (IsBadBits rams name fault)
