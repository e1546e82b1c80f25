use Rattle.std.proofs.Common.{◌≡◌, drop}
use Rattle.ice_place_defs.specs.Loads.{pads_loads}
use Rattle.ice_place_length.specs.Grown.{box_in, grown}
use Rattle.ice_place_length.proofs.loads.with_pads.Given as goal

abbrev pub invariant-loop-k : goal.invariant-loop-k
invariant-loop-k l = grown l.root (box_in l.wide) (pads_loads (drop l.k l.places) (drop l.k l.pads)) ≡ grown l.root (box_in l.fn.span) (pads_loads l.places l.pads)
