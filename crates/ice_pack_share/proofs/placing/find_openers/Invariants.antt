use Rattle.std.proofs.Common.{◌≡◌, map, length}
use Rattle.std.specs.List.{range_with_len}
use Rattle.ice_cells.specs.Homes.{openers_before}
use Rattle.ice_pack_share.proofs.placing.find_openers.Given as goal

abbrev pub invariant-loop-j : goal.invariant-loop-j
invariant-loop-j l = (l.found.items ≡ openers_before l.facts l.j) × (l.counted.items ≡ map (λ i. length (openers_before l.facts i)) (range_with_len 0 l.j))
