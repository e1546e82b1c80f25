use Rattle.std.proofs.Common.{take}
use Rattle.ice_check.specs.Tables.{AreTimes}
use Rattle.ice_check.proofs.tables.times_of.Given as goal

abbrev pub invariant-loop-place : goal.invariant-loop-place
invariant-loop-place l = AreTimes l.count (take l.place l.list) l.table.items
