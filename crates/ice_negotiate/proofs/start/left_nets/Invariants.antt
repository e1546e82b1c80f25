use Rattle.std.proofs.Common.{◌≡◌, ◌++◌, drop}
use Rattle.ice_negotiate_defs.specs.Fitting.{wholes}
use Rattle.ice_negotiate_defs.specs.Rounds.{left_from}
use Rattle.ice_negotiate.proofs.start.left_nets.Given as goal

abbrev pub invariant-loop-net : goal.invariant-loop-net
invariant-loop-net l = left_from 0 (wholes l.kept) ≡ l.list.items ++ left_from l.net (wholes (drop l.net l.kept))
