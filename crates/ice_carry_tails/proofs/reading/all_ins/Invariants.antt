use Rattle.std.proofs.Common.{◌≡◌, take}
use Rattle.std.specs.List.{flat_map}
use Rattle.ice_carry_tails.specs.Ends.{ins_of}
use Rattle.ice_carry_tails.proofs.reading.all_ins.Given as goal

abbrev pub invariant-loop-cell : goal.invariant-loop-cell
invariant-loop-cell l = l.list.items ≡ flat_map ins_of (take l.cell-index l.cells)
