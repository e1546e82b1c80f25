use Rattle.std.proofs.Common.{◌≡◌, map, take}
use Rattle.ice_core.specs.Routes.{lists_of}
use Rattle.ice_claim_opening.specs.First.{wires_by_number}
use Rattle.ice_claim_opening.proofs.first.first_lists.Given as goal

abbrev pub invariant-loop-one : goal.invariant-loop-one
invariant-loop-one l = lists_of l.lists.items ≡ map wires_by_number (take l.one-index l.kept)
