use Rattle.std.proofs.Common.{◌≡◌, drop}
use Rattle.std.specs.List.{flat_map}
use Rattle.ice_cells.specs.Readings.{pad_readings}
use Rattle.ice_cells.specs.Follows.{marked}
use Rattle.ice_carry_chains.proofs.follow.mark_pads.Given as goal

abbrev pub invariant-loop-pad : goal.invariant-loop-pad
invariant-loop-pad l = marked l.marks.items (flat_map pad_readings (drop l.pad-index l.pads)) ≡ marked l.initial.marks.items (flat_map pad_readings l.pads)
