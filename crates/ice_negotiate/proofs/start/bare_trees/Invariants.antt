use Rattle.std.proofs.Common.{◌≡◌, length}
use Rattle.ice_negotiate_defs.specs.Rounds.{AreBare}
use Rattle.ice_negotiate.proofs.start.bare_trees.Given as goal

abbrev pub invariant-loop-net : goal.invariant-loop-net
invariant-loop-net l = record {
  long : length l.trees.items ≡ l._net;
  bare : AreBare l.trees.items;
}
