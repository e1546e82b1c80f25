use Rattle.std.proofs.Common.{◌≡◌, drop}
use Rattle.std.specs.List.{flat_map}
use Rattle.ice_cells.specs.Readings.{pad_roots}
use Rattle.ice_pack.specs.Marks.{marked}
use Rattle.ice_pack.proofs.reads.mark_pads.Given as goal

abbrev pub invariant-loop-pad : goal.invariant-loop-pad
invariant-loop-pad l = marked l.marks.items (flat_map pad_roots (drop l.pad-index l.pads)) ≡ marked l.initial.marks.items (flat_map pad_roots l.pads)
