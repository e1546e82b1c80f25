use Rattle.std.proofs.Common.{take}
use Rattle.ice_anneal.specs.Table.{Knows}
use Rattle.ice_anneal.proofs.table.places_of.Given as goal

abbrev pub invariant-loop-c : goal.invariant-loop-c
invariant-loop-c l = Knows (take l.c l.chunks) l.places.entries
