use Rattle.std.proofs.Common.{◌≡◌, drop}
use Rattle.ice_place_defs.specs.Loads.{fed_roots, globals_loads}
use Rattle.ice_place_length.specs.Grown.{box_in, grown}
use Rattle.ice_place_length.proofs.loads.with_globals.Given as goal

abbrev pub invariant-loop-k : goal.invariant-loop-k
invariant-loop-k l =
    grown l.root (box_in l.wide) (globals_loads l.chip (drop l.k l.numbers) (drop l.k (fed_roots l.direct l.reads)))
    ≡ grown l.root (box_in l.fn.span) (globals_loads l.chip l.numbers (fed_roots l.direct l.reads))
