use Rattle.std.proofs.Common.{Bool, false, drop, map, ◌≡◌}
use Rattle.std.specs.Prelude.{slice_index_or}
use Rattle.std.specs.List.{list_all}
use Rattle.ice_base_values.specs.Graph.{depends_of}
use Rattle.ice_tests_netlists.proofs.orders.NandsPoints.local.Given as goal

abbrev pub invariant-loop-read : goal.invariant-loop-read
invariant-loop-read l =
    list_all (λ (level : Bool). level) (map (λ q. slice_index_or l.values q false) (depends_of l.self.graph l.point))
    ≡ list_all (λ (level : Bool). level) (map (λ q. slice_index_or l.values q false) (drop l.read-index l.read-items))
