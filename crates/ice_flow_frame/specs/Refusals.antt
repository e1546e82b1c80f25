-- The cause of each fault of a reader, of a netlist, of pins and places, and of bits.
use Rattle.std.specs.Prelude.{◌≡◌, ◌≢◌, ◌⊎◌}
use Rattle.ice_net.specs.NetlistData.{NetlistData}
use Rattle.ice_flow_frame.specs.declared.cause.Cause.{Cause}
use Rattle.ice_flow_frame.specs.declared.cause.Cause.TheVariants.{BadBlif, BadPcf, BadChip, BadNet, BadPin, Overfull, BadAsc, BadBits, NoMemory}
use Rattle.ice_asc.specs.declared.fault.AscFault.{AscFault}
use Rattle.ice_asc.specs.declared.fault.AscFault.TheVariants as asc_fault
use Rattle.ice_blif.specs.declared.fault.BlifFault.{BlifFault}
use Rattle.ice_blif.specs.declared.fault.BlifFault.TheVariants as blif_fault
use Rattle.ice_check.specs.Refusals.{IsFaultOf}
use Rattle.ice_check.specs.declared.fault.NetFault.{NetFault}
use Rattle.ice_check.specs.declared.fault.NetFault.TheVariants as net_fault
use Rattle.ice_chip.specs.declared.fault.ChipFault.{ChipFault}
use Rattle.ice_chip.specs.declared.fault.ChipFault.TheVariants as chip_fault
use Rattle.ice_decode.specs.declared.fault.DecodeFault.{DecodeFault}
use Rattle.ice_decode.specs.declared.fault.DecodeFault.TheVariants as decode_fault
use Rattle.ice_pads.specs.declared.fault.PinFault.{PinFault}
use Rattle.ice_pads.specs.declared.fault.PinFault.TheVariants as pin_fault
use Rattle.ice_pcf.specs.declared.fault.PcfFault.{PcfFault}
use Rattle.ice_pcf.specs.declared.fault.PcfFault.TheVariants as pcf_fault
use Rattle.ice_place.specs.declared.fault.PlaceFault.{PlaceFault}
use Rattle.ice_place.specs.declared.fault.PlaceFault.TheVariants as place_fault

-- the cause of a text of pins that gives no constraints: want of memory alone where the reader had none, and else the fault
abbrev pub IsPcfRefusal : PcfFault → Cause → Type 0
IsPcfRefusal fault cause = ((cause ≡ NoMemory) × (fault ≡ pcf_fault.NoMemory)) ⊎ ((cause ≡ BadPcf fault) × (fault ≢ pcf_fault.NoMemory))

-- the cause of a netlist's text that gives no netlist, in the same way
abbrev pub IsBlifRefusal : BlifFault → Cause → Type 0
IsBlifRefusal fault cause = ((cause ≡ NoMemory) × (fault ≡ blif_fault.NoMemory)) ⊎ ((cause ≡ BadBlif fault) × (fault ≢ blif_fault.NoMemory))

-- the cause of a chip text that gives no chip, in the same way
abbrev pub IsChipRefusal : ChipFault → Cause → Type 0
IsChipRefusal fault cause = ((cause ≡ NoMemory) × (fault ≡ chip_fault.NoMemory)) ⊎ ((cause ≡ BadChip fault) × (fault ≢ chip_fault.NoMemory))

-- the cause of a text of bits that gives none, in the same way
abbrev pub IsAscRefusal : AscFault → Cause → Type 0
IsAscRefusal fault cause = ((cause ≡ NoMemory) × (fault ≡ asc_fault.NoMemory)) ⊎ ((cause ≡ BadAsc fault) × (fault ≢ asc_fault.NoMemory))

-- the cause of bits that have no circuit, in the same way
abbrev pub IsBitsRefusal : DecodeFault → Cause → Type 0
IsBitsRefusal fault cause = ((cause ≡ NoMemory) × (fault ≡ decode_fault.NoMemory)) ⊎ ((cause ≡ BadBits fault) × (fault ≢ decode_fault.NoMemory))

-- the cause of a netlist that isn't sound, in the same way
abbrev pub IsNetRefusal : NetFault → Cause → Type 0
IsNetRefusal fault cause = ((cause ≡ NoMemory) × (fault ≡ net_fault.NoMemory)) ⊎ ((cause ≡ BadNet fault) × (fault ≢ net_fault.NoMemory))

-- the cause is this fault of the netlist, which isn't want of memory
abbrev pub IsNetCause : NetlistData → Cause → Type 0
IsNetCause circuit cause = (fault : NetFault) × (cause ≡ BadNet fault) × IsFaultOf circuit fault × (fault ≢ net_fault.NoMemory)

-- the cause of ports that have no pads, or of global buffers that have no globals, in the same way
abbrev pub IsPinRefusal : PinFault → Cause → Type 0
IsPinRefusal fault cause = ((cause ≡ NoMemory) × (fault ≡ pin_fault.NoMemory)) ⊎ ((cause ≡ BadPin fault) × (fault ≢ pin_fault.NoMemory))

-- the cause of clusters that have no places, in the same way
abbrev pub IsPlaceRefusal : PlaceFault → Cause → Type 0
IsPlaceRefusal fault cause = ((cause ≡ NoMemory) × (fault ≡ place_fault.NoMemory)) ⊎ ((cause ≡ Overfull fault) × (fault ≢ place_fault.NoMemory))

-- Want of memory is an answer of its own: the fault that a refusal tells is another one.
abbrev pub IsKnown : Cause → Type 0
IsKnown (BadBlif fault) = fault ≢ blif_fault.NoMemory
IsKnown (BadPcf fault) = fault ≢ pcf_fault.NoMemory
IsKnown (BadChip fault) = fault ≢ chip_fault.NoMemory
IsKnown (BadNet fault) = fault ≢ net_fault.NoMemory
IsKnown (BadPin fault) = fault ≢ pin_fault.NoMemory
IsKnown (Overfull fault) = fault ≢ place_fault.NoMemory
IsKnown (BadAsc fault) = fault ≢ asc_fault.NoMemory
IsKnown (BadBits fault) = fault ≢ decode_fault.NoMemory
IsKnown cause = Unit {0}
