use Rattle.std.proofs.Common.{◌≡◌, take, map}
use Rattle.std.specs.Prelude.{option_map}
use Rattle.ice_emit_nets.specs.Ends.{wire_no}
use Rattle.ice_emit_nets.specs.Nets.{pad_wire}
use Rattle.ice_emit_nets.proofs.wires.pad_wires.Given as goal

abbrev pub invariant-loop-pad : goal.invariant-loop-pad
invariant-loop-pad l = l.wires.items ≡ map (λ pad. option_map wire_no (pad_wire l.chip pad)) (take l.pad-index l.ports)
