use Rattle.std.proofs.Common.{◌≡◌, ◌++◌, drop, map}
use Rattle.ice_chip.specs.Views.{group_view}
use Rattle.ice_bits.specs.Configuration.{bits_of}
use Rattle.ice_decode.specs.Drivers.{switches_on}
use Rattle.ice_decode_circuit.proofs.rows.switches_on.Given as goal

abbrev pub invariant-loop-group : goal.invariant-loop-group
invariant-loop-group l =
    switches_on (bits_of l.bits) (map group_view l.group-items)
    ≡ l.switches.items ++ switches_on (bits_of l.bits) (map group_view (drop l.group-index l.group-items))
