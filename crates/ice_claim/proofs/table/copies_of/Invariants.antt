use Rattle.std.proofs.Common.{◌≡◌, take}
use Rattle.ice_core.specs.Routes.{lists_of}
use Rattle.ice_claim.proofs.table.copies_of.Given as goal

abbrev pub invariant-loop-list : goal.invariant-loop-list
invariant-loop-list l = lists_of l.copies.items ≡ lists_of (take l.list-index l.lists)
