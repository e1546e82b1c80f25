use Rattle.std.proofs.Common.{take}
use Rattle.ice_check.specs.Tables.{ArePlaces}
use Rattle.ice_check.proofs.tables.places.Given as goal

abbrev pub invariant-loop-place : goal.invariant-loop-place
invariant-loop-place l = ArePlaces l.count (take l.place l.list) l.table.items
