use Rattle.std.proofs.Common.{take}
use Rattle.ice_negotiate_round.specs.Moving.{AreTasksOf}
use Rattle.ice_negotiate_round.proofs.tasks.tasks_of.Given as goal

abbrev pub invariant-loop-number : goal.invariant-loop-number
invariant-loop-number l = AreTasksOf l.nets l.trees (take l.number-index l.moved) l.tasks.items
