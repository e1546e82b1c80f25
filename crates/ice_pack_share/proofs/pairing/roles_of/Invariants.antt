use Rattle.std.proofs.Common.{◌≡◌, map, take}
use Rattle.ice_cells.specs.Pairs.{role_of}
use Rattle.ice_pack_share.proofs.pairing.roles_of.Given as goal

abbrev pub invariant-loop-cell : goal.invariant-loop-cell
invariant-loop-cell l = l.roles.items ≡ map (role_of l.origins) (take l.cell-index l.cells)
