use Rattle.std.proofs.Common.{◌≡◌, ◌+◌, ◌++◌, drop, map}
use Rattle.ice_chip.specs.Views.{row_view, group_view}
use Rattle.ice_fabric.specs.Edges.{edges_of, places_of}
use Rattle.ice_fabric.proofs.usable.add_group.Given as goal

abbrev pub invariant-loop-k : goal.invariant-loop-k
invariant-loop-k l = record {
  edges : l.edges.items ++ edges_of l.fn.index.chip.now (group_view l.group) (l.group.first.0 + l.k) (map row_view (drop l.k l.group.rows.items))
      ≡ l.fn.edges.items ++ edges_of l.fn.index.chip.now (group_view l.group) l.group.first.0 (map row_view l.group.rows.items);
  places : l.places.items ++ places_of l.fn.index.chip.now (group_view l.group) (l.group.first.0 + l.k) (map row_view (drop l.k l.group.rows.items))
      ≡ l.fn.places.items ++ places_of l.fn.index.chip.now (group_view l.group) l.group.first.0 (map row_view l.group.rows.items);
}
