use Rattle.std.proofs.Common.{◌≡◌, map, take}
use Rattle.ice_cells.specs.Runs.{renamed_pad}
use Rattle.ice_carry.proofs.renames.rename_pads.Given as goal

abbrev pub invariant-loop-pad : goal.invariant-loop-pad
invariant-loop-pad l = l.after.items ≡ map (renamed_pad l.moved l.fed) (take l.pad-index l.pads)
