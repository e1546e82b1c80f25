use Rattle.ice_core.specs.Moves.{HaveCounted}
use Rattle.ice_core.proofs.rounds.count.Given as goal

abbrev pub invariant-loop-wire : goal.invariant-loop-wire
invariant-loop-wire l = HaveCounted l.fn.seen l.net l.wires l.wire-index l.seen l.marks
