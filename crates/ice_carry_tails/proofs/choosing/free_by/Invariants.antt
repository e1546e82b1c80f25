use Rattle.std.proofs.Common.{◌≡◌, filter, take}
use Rattle.ice_carry_tails.specs.Ends.{can_share}
use Rattle.ice_carry_tails.proofs.choosing.free_by.Given as goal

abbrev pub invariant-loop-table : goal.invariant-loop-table
invariant-loop-table l = l.free.items ≡ filter (can_share l.carriers l.found l.cells) (take l.table-index l.tables)
