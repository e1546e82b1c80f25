use Rattle.std.proofs.Common.{ℕ, take}
use Rattle.std.specs.List.{All}
use Rattle.ice_anneal_board.specs.Length.{IsNode}
use Rattle.ice_anneal.proofs.Repeats.{Same}
use Rattle.ice_anneal.proofs.once.once.Given as goal

abbrev pub invariant-loop-node : goal.invariant-loop-node
invariant-loop-node l = record {
  nodes : (count : ℕ) → All (IsNode count) l.nodes → All (IsNode count) l.kept.items;
  same : Same l.kept.items (take l.node-index l.nodes);
}
