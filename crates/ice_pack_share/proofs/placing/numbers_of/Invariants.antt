use Rattle.std.proofs.Common.{◌≡◌, map}
use Rattle.std.specs.List.{range_with_len}
use Rattle.ice_cells.specs.Homes.{home}
use Rattle.ice_pack_share.proofs.placing.numbers_of.Given as goal

abbrev pub invariant-loop-j : goal.invariant-loop-j
invariant-loop-j l = l.found.items ≡ map (home l.facts) (range_with_len 0 l.j)
