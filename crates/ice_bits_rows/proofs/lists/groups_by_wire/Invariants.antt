use Rattle.std.proofs.Common.{◌≡◌, [], drop, map, replicate, length}
use Rattle.ice_chip.specs.Views.{group_view}
use Rattle.ice_bits_rows.specs.Lists.{lists_of, listed}
use Rattle.ice_bits_rows.proofs.lists.groups_by_wire.Given as goal

abbrev pub invariant-loop-group : goal.invariant-loop-group
invariant-loop-group l = record {
  long : length l.lists.items ≡ l.wires;
  groups : listed (replicate l.wires []) (map group_view l.groups) ≡ listed (lists_of l.lists.items) (map group_view (drop l.group-index l.groups));
}
