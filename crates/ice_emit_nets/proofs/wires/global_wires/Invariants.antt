use Rattle.std.proofs.Common.{◌≡◌, take, map}
use Rattle.std.specs.Prelude.{option_map}
use Rattle.ice_pads.specs.Globals.{global_wire}
use Rattle.ice_emit_nets.specs.Ends.{wire_no}
use Rattle.ice_emit_nets.proofs.wires.global_wires.Given as goal

abbrev pub invariant-loop-number : goal.invariant-loop-number
invariant-loop-number l = l.wires.items ≡ map (λ n. option_map wire_no (global_wire l.chip n)) (take l.number-index l.globals)
