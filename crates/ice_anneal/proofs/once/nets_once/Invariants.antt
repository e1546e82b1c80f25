use Rattle.std.proofs.Common.{◌≡◌, ℕ, List, take, length}
use Rattle.std.specs.List.{All}
use Rattle.ice_base.specs.declared.number.TileAt.{TileAt}
use Rattle.ice_anneal_board.specs.Length.{IsNet, wire_length}
use Rattle.ice_anneal.proofs.once.nets_once.Given as goal

abbrev pub invariant-loop-net : goal.invariant-loop-net
invariant-loop-net l = record {
  count : length l.found.items ≡ l.net-index;
  nets : (count : ℕ) → All (IsNet count) l.nets → All (IsNet count) l.found.items;
  lengths : (at : List TileAt) → wire_length l.found.items at ≡ wire_length (take l.net-index l.nets) at;
}
