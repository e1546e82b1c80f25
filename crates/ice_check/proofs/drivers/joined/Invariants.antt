use Rattle.ice_check.specs.Tables.{AreJoined}
use Rattle.ice_check.proofs.drivers.joined.Given as goal

abbrev pub invariant-loop-signal : goal.invariant-loop-signal
invariant-loop-signal l = AreJoined l.signal l.pads l.outputs l.table.items
