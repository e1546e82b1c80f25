use Rattle.std.proofs.Common.{◌≡◌, map, take}
use Rattle.ice_cells.specs.Moves.{renamed_source}
use Rattle.ice_carry.proofs.renames.rename_globals.Given as goal

abbrev pub invariant-loop-root : goal.invariant-loop-root
invariant-loop-root l = l.after.items ≡ map (renamed_source l.moved l.fed) (take l.root-index l.globals)
