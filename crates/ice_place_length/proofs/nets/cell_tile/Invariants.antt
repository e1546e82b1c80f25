use Rattle.std.proofs.Common.{◌≡◌, drop}
use Rattle.std.specs.Prelude.{option_map}
use Rattle.ice_place_defs.specs.Plan.{slot_tile, slot_among}
use Rattle.ice_place_length.proofs.nets.cell_tile.Given as goal

abbrev pub invariant-loop-k : goal.invariant-loop-k
invariant-loop-k l = option_map slot_tile (slot_among (drop l.k l.clusters) (drop l.k l.tiles) l.cell) ≡ option_map slot_tile (slot_among l.clusters l.tiles l.cell)
