use Rattle.std.proofs.Common.{◌≡◌, ◌++◌, take, drop}
use Rattle.ice_anneal.specs.Order.{rooms}
use Rattle.ice_anneal.proofs.order.add_stretch.Given as goal

abbrev pub invariant-loop-k : goal.invariant-loop-k
invariant-loop-k l = record {
  tiles : l.order.tiles.items ≡ l.fn.order.tiles.items ++ take l.k l.sites;
  room : l.order.room.items ++ rooms (drop l.k l.sites) ≡ l.fn.order.room.items ++ rooms l.sites;
}
