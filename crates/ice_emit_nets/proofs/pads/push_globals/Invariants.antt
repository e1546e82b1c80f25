use Rattle.std.proofs.Common.{◌≡◌, ◌++◌, drop}
use Rattle.ice_place_defs.specs.Loads.{fed_roots}
use Rattle.ice_emit_nets.specs.Given.{global_ends}
use Rattle.ice_emit_nets.specs.Sides.{sides}
use Rattle.ice_emit_nets.proofs.pads.push_globals.Given as goal

abbrev pub invariant-loop-k : goal.invariant-loop-k
invariant-loop-k l =
    l.ends.items ++ sides (global_ends l.chip) l.numbers l.k (drop l.k (fed_roots l.direct l.roots)) ≡ l.initial.ends.items ++ sides (global_ends l.chip) l.numbers 0 (fed_roots l.direct l.roots)
