use Rattle.std.proofs.Common.{◌≡◌, ◌<◌, ℕ, Some, slice_get}
use Rattle.ice_graph.specs.declared.edge.Edge.{Edge}
use Rattle.ice_path.specs.Search.{label}
use Rattle.ice_path.proofs.back.first_from.Given as goal

abbrev pub invariant-loop-row : goal.invariant-loop-row
invariant-loop-row l = (k : ℕ) (e : Edge) → k < l.row-index → slice_get l.rows k ≡ Some e → label l.labels e.from.0 ≡ Some l.cost → ⊥
