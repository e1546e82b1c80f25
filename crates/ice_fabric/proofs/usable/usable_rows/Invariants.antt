use Rattle.std.proofs.Common.{◌≡◌, ◌++◌, drop, map}
use Rattle.ice_chip.specs.Views.{group_view}
use Rattle.ice_fabric.specs.Edges.{edges_from, places_from, usable_places, usable_rows}
use Rattle.ice_fabric.proofs.usable.usable_rows.Given as goal

abbrev pub invariant-loop-group : goal.invariant-loop-group
invariant-loop-group l = record {
  edges : l.edges.items ++ edges_from l.fn.index.chip.now (map group_view (drop l.group-index l.group-items)) ≡ usable_rows l.fn.index.chip.now;
  places : l.places.items ++ places_from l.fn.index.chip.now (map group_view (drop l.group-index l.group-items)) ≡ usable_places l.fn.index.chip.now;
}
