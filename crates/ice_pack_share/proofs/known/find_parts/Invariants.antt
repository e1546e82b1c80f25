use Rattle.std.proofs.Common.{◌≡◌, map, take}
use Rattle.ice_cells.specs.Homes.{part_of}
use Rattle.ice_pack_share.proofs.known.find_parts.Given as goal

abbrev pub invariant-loop-cell : goal.invariant-loop-cell
invariant-loop-cell l = l.parts.items ≡ map (part_of l.origins) (take l.cell-index l.cells)
