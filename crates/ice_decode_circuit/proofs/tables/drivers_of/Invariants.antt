use Rattle.std.proofs.Common.{◌≡◌, take}
use Rattle.ice_decode.specs.Tables.{drivers_of}
use Rattle.ice_decode_circuit.proofs.tables.drivers_of.Given as goal

abbrev pub invariant-loop-switch : goal.invariant-loop-switch
invariant-loop-switch l = l.drivers.items ≡ drivers_of l.wires (take l.switch-index l.switches)
