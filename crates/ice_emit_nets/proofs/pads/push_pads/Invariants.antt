use Rattle.std.proofs.Common.{◌≡◌, ◌++◌, drop}
use Rattle.ice_emit_nets.specs.Given.{pad_ends}
use Rattle.ice_emit_nets.specs.Sides.{sides}
use Rattle.ice_emit_nets.proofs.pads.push_pads.Given as goal

abbrev pub invariant-loop-k : goal.invariant-loop-k
invariant-loop-k l = l.ends.items ++ sides (pad_ends l.chip) l.ports l.k (drop l.k l.pads) ≡ l.initial.ends.items ++ sides (pad_ends l.chip) l.ports 0 l.pads
