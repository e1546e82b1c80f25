use Rattle.std.proofs.Common.{◌≡◌, ◌≤◌, ◌*◌, map, length}
use Rattle.std.specs.List.{range_with_len}
use Rattle.ice_place_defs.specs.Length.{sum, pad_root, net_length}
use Rattle.ice_place_length.specs.Grown.{loads_in}
use Rattle.ice_place_defs.specs.Plan.{plan_in}
use Rattle.ice_place_length.proofs.nets.pads_length.Given as goal

abbrev pub invariant-loop-k : goal.invariant-loop-k
invariant-loop-k l = record {
  so_far : l.total ≡ sum (map (λ k. net_length (plan_in l.fn.placed) (loads_in l.fn.placed) (pad_root k)) (range_with_len 0 l.k));
  bound : l.total ≤ 131070 * l.k;
}
