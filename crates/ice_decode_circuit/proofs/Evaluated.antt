-- An order or a loop of the points, by one of their numbers.
use Rattle.std.proofs.Common.{◌≡◌, ℕ, Some, List, length, map, arith}
use Rattle.std.specs.Prelude.{slice_get}
use Rattle.ice_base_values.specs.Order.{IsOrder, IsCycleBelow, StandOnce}
use Rattle.ice_base_values.specs.Graph.{depends_of}
use Rattle.ice_chip.specs.Database.{Parts}
use Rattle.ice_bits.specs.Configuration.{Bits}
use Rattle.ice_decode.specs.declared.point.Point.{Point}
use Rattle.ice_decode.specs.Loops.{IsLoop, IsOrderOf, wires_among}
use Rattle.ice_decode.specs.Points.{AreAllPoints, IsGraphOf}
use Rattle.ice_decode.specs.Reads.{depends_on}
use Rattle.ice_decode_circuit.proofs.Graphs.{order_within, order_long, order_each, points_once, order_after, cycle_of}

module _ (parts : Parts) (bits : Bits) (extras : List (ℕ × ℕ × ℕ)) (list : List Point) (rows : List (List ℕ)) (graph : IsGraphOf list (depends_on parts bits extras) rows) (all : AreAllPoints parts list)
    (numbers : List ℕ) (points : List Point) (same : map (λ p. Some p) points ≡ map (slice_get list) numbers) where
  pub order_of : IsOrder (length rows) (depends_of rows) numbers → IsOrderOf parts bits extras points
  order_of o = record {
    few = (let long = order_long list (depends_on parts bits extras) rows graph numbers points same o in let few = all.few in omega arith);
    within = λ p has. all.within p (order_within list (depends_on parts bits extras) rows graph numbers points same p has);
    each = λ p has. order_each list (depends_on parts bits extras) rows graph numbers points same o p (all.each p has);
    once = points_once list (depends_on parts bits extras) rows graph numbers points same all.once o.once;
    after = order_after list (depends_on parts bits extras) rows graph numbers points same all.once o;
  }

  pub loop_of : (wires : List ℕ) → wires ≡ wires_among points → IsCycleBelow (length rows) (depends_of rows) numbers → StandOnce numbers → IsLoop parts bits extras wires
  loop_of wires are c once = record {
    cycle = points;
    closes = cycle_of list (depends_on parts bits extras) rows graph numbers points same c.closes;
    once = points_once list (depends_on parts bits extras) rows graph numbers points same all.once once;
    are_wires = are;
  }
