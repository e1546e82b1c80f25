-- The RAMs of a netlist that is to be built.
use Rattle.std.specs.Prelude.{◌==◌, Result, Ok, Err, length, if◌then◌else◌}
use Rattle.ice_net.specs.NetlistData.{NetlistData}
use Rattle.ice_pads.specs.declared.fault.PinFault.{PinFault}
use Rattle.ice_pads.specs.declared.fault.PinFault.TheVariants.{TooManyRams}
use Rattle.ice_ram_read.specs.ClosedNetlists.{ClosedNetlistData}

-- the netlist, where no RAM closes it; none can be built yet
abbrev pub rams_said : ClosedNetlistData → Result NetlistData PinFault
rams_said circuit = if length circuit.rams == 0 then Ok circuit.netlist else Err (TooManyRams (length circuit.rams) 0)
