use Rattle.std.proofs.Common.{◌≡◌, drop}
use Rattle.ice_cells.specs.Clusters.{ends, groups_pieces}
use Rattle.ice_cluster.proofs.filling.open_lists.Given as goal

abbrev pub invariant-loop-k : goal.invariant-loop-k
invariant-loop-k l = ends (groups_pieces l.sets.keys l.k (drop l.k l.lists)) l.rest l.groups.items ≡ ends (groups_pieces l.sets.keys 0 l.lists) l.plains l.initial.groups.items
