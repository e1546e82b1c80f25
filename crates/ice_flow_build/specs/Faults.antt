-- The faults of building, from those of its steps: want of memory is one fault.
use Rattle.ice_decode.specs.declared.fault.DecodeFault.{DecodeFault}
use Rattle.ice_decode.specs.declared.fault.DecodeFault.TheVariants as decode
use Rattle.ice_pads.specs.declared.fault.PinFault.{PinFault}
use Rattle.ice_pads.specs.declared.fault.PinFault.TheVariants as pin
use Rattle.ice_place.specs.declared.fault.PlaceFault.{PlaceFault}
use Rattle.ice_place.specs.declared.fault.PlaceFault.TheVariants as place
use Rattle.ice_flow_build.specs.declared.answer.BuildFault.{BuildFault}
use Rattle.ice_flow_build.specs.declared.answer.BuildFault.TheVariants.{Pins, Places, Bits, NoMemory}

abbrev pub pin_fault : PinFault → BuildFault
pin_fault pin.NoMemory = NoMemory
pin_fault fault = Pins fault

abbrev pub place_fault : PlaceFault → BuildFault
place_fault place.NoMemory = NoMemory
place_fault fault = Places fault

abbrev pub bits_fault : DecodeFault → BuildFault
bits_fault decode.NoMemory = NoMemory
bits_fault fault = Bits fault
