use Rattle.std.proofs.Common.{◌≡◌, ◌≤◌, length, take, vec_len}
use Rattle.ice_negotiate_round.specs.Moving.{placed}
use Rattle.ice_negotiate_round.proofs.moving.place.Given as goal

abbrev pub invariant-loop-tree : goal.invariant-loop-tree
invariant-loop-tree l = record {
  long : length l.trees ≡ length l.fn.trees;
  few : vec_len l.news ≤ length l.moved;
  rest : placed l.trees (take (vec_len l.news) l.moved) l.news.items ≡ placed l.fn.trees l.moved l.fn.news.items;
}

abbrev pub decreases-loop-tree : goal.decreases-loop-tree
decreases-loop-tree l = vec_len l.news
