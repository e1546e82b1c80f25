use Rattle.std.proofs.Common.{◌≡◌, ◌++◌, length, drop}
use Rattle.ice_core.specs.Moves.{AreCounted, movers_of, movers_from}
use Rattle.ice_core.proofs.rounds.fill.Given as goal

abbrev pub invariant-loop-net : goal.invariant-loop-net
invariant-loop-net l = record {
  counted : AreCounted l.trees l.net l.seen l.marks;
  long : length l.seen ≡ length l.counts;
  so_far : movers_of l.round l.trees ≡ l.nets.items ++ movers_from l.round l.trees l.net (drop l.net l.trees);
}
