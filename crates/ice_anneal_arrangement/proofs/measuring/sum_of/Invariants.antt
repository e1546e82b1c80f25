use Rattle.std.proofs.Common.{◌≡◌, ◌*◌, ◌≤◌, take}
use Rattle.ice_anneal_board.specs.Length.{wire_length}
use Rattle.ice_anneal_arrangement.proofs.measuring.sum_of.Given as goal

abbrev pub invariant-loop-net : goal.invariant-loop-net
invariant-loop-net l = record {
  sum : l.total ≡ wire_length (take l.net-index l.nets) l.at;
  bound : l.total ≤ 131070 * l.net-index;
}
