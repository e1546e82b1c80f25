use Rattle.std.proofs.Common.{◌≡◌, ◌<◌, ℕ, Some, slice_get}
use Rattle.ice_base.specs.declared.number.WireNo.{WireNo}
use Rattle.ice_path.specs.Search.{label}
use Rattle.ice_path.proofs.back.first_labelled.Given as goal

abbrev pub invariant-loop-target : goal.invariant-loop-target
invariant-loop-target l = (k : ℕ) (t : WireNo) → k < l.target-index → slice_get l.targets k ≡ Some t → label l.labels t.0 ≡ Some l.cost → ⊥
