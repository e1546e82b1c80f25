use Rattle.std.proofs.Common.{◌≡◌, ◌-◌}
use Rattle.ice_pads.specs.Constraints.{first_passing}
use Rattle.ice_pads.specs.Globals.{has_name}
use Rattle.ice_pads.proofs.free_globals.first_named.Given as goal

abbrev pub invariant-loop-wire : goal.invariant-loop-wire
invariant-loop-wire l = first_passing (has_name l.chip l.name) 0 l.chip.wires ≡ first_passing (has_name l.chip l.name) l.wire (l.chip.wires - l.wire)
