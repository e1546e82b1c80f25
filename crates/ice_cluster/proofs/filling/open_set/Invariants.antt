use Rattle.std.proofs.Common.{◌≡◌, ◌-◌, map}
use Rattle.std.specs.List.{range_with_len}
use Rattle.ice_cells.specs.Clusters.{ends, set_piece}
use Rattle.ice_cells.specs.Pieces.{pieces_count}
use Rattle.ice_cluster.proofs.filling.open_set.Given as goal

abbrev pub invariant-loop-k : goal.invariant-loop-k
invariant-loop-k l =
    ends (map (set_piece l.control l.members) (range_with_len l.k (pieces_count l.members - l.k))) l.rest l.groups.items
    ≡ ends (map (set_piece l.control l.members) (range_with_len 0 (pieces_count l.members))) l.plains l.initial.groups.items
