use Rattle.std.proofs.Common.{◌≡◌, length}
use Rattle.ice_core.specs.Moves.{AreCounted}
use Rattle.ice_core.proofs.rounds.count_all.Given as goal

abbrev pub invariant-loop-net : goal.invariant-loop-net
invariant-loop-net l = record {
  counted : AreCounted l.trees l.net l.seen l.marks;
  long : length l.seen ≡ length l.fn.seen;
}
