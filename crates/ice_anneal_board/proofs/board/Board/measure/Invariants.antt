use Rattle.std.proofs.Common.{◌≡◌, ◌≤◌, ℕ, ◌⊎◌, take, length, sum, get_or}
use Rattle.std.specs.List.{All, Contains}
use Rattle.ice_anneal_board.specs.declared.net.NetNodes.{NetNodes}
use Rattle.ice_anneal_board.specs.Length.{net_length}
use Rattle.ice_anneal_board.specs.Wiring.{At}
use Rattle.ice_anneal_board.proofs.board.Board.measure.Given as goal

abbrev pub invariant-loop-net : goal.invariant-loop-net
invariant-loop-net l = record {
  place : l.self.place.items ≡ l.fn.self.place.items;
  lengths : length l.self.lengths.items ≡ length l.wiring.nets.items;
  bound : All (λ n. n ≤ 131070) l.self.lengths.items;
  total : l.self.total ≡ sum l.self.lengths.items;
  right : (k : ℕ) (net : NetNodes) → At l.wiring.nets.items k net
      → Contains (take l.net-index l.nets) k ⊎ (get_or l.fn.self.lengths.items k 0 ≡ net_length l.fn.self.place.items net.nodes.items)
      → get_or l.self.lengths.items k 0 ≡ net_length l.fn.self.place.items net.nodes.items;
}
