use Rattle.std.proofs.Common.{◌≡◌, ◌≤◌, ◌*◌, map, length}
use Rattle.std.specs.List.{range_with_len}
use Rattle.ice_place_defs.specs.Length.{sum, cell_root, net_length}
use Rattle.ice_place_length.specs.Grown.{loads_in}
use Rattle.ice_place_defs.specs.Plan.{plan_in}
use Rattle.ice_place_length.proofs.nets.cells_length.Given as goal

abbrev pub invariant-loop-c : goal.invariant-loop-c
invariant-loop-c l = record {
  so_far : l.total ≡ sum (map (λ c. net_length (plan_in l.fn.placed) (loads_in l.fn.placed) (cell_root c)) (range_with_len 0 l.c));
  bound : l.total ≤ 131070 * l.c;
}
