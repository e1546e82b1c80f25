use Rattle.std.proofs.Common.{◌≡◌, take, map}
use Rattle.ice_pack.specs.Marks.{marked_pad}
use Rattle.ice_pack.proofs.reads.marked_pads.Given as goal

abbrev pub invariant-loop-pad : goal.invariant-loop-pad
invariant-loop-pad l = l.found.items ≡ map (marked_pad l.marks) (take l.pad-index l.pads)
