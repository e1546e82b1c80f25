use Rattle.std.proofs.Common.{◌≡◌, ◌<◌, ◌≤◌, ℕ, length, sum, get_or}
use Rattle.std.specs.List.{All}
use Rattle.ice_anneal_board.specs.declared.net.NetNodes.{NetNodes}
use Rattle.ice_anneal_board.specs.Length.{net_length}
use Rattle.ice_anneal_board.specs.Wiring.{At}
use Rattle.ice_anneal_board.proofs.board.Board.new.Given as goal

abbrev pub invariant-loop-net : goal.invariant-loop-net
invariant-loop-net l = record {
  lengths : length l.lengths.items ≡ l.net-index;
  bound : All (λ n. n ≤ 131070) l.lengths.items;
  total : l.total ≡ sum l.lengths.items;
  right : (k : ℕ) (net : NetNodes) → k < l.net-index → At l.wiring.nets.items k net → get_or l.lengths.items k 0 ≡ net_length l.place.items net.nodes.items;
}
