use Rattle.std.proofs.Common.{◌≡◌, ℕ, ◌<◌, []}
use Rattle.ice_base_values.specs.Order.{At}
use Rattle.ice_base_values.specs.SearchState.{IsSearching}
use Rattle.ice_base_values.specs.declared.search.Mark.TheVariants.{New}
use Rattle.ice_base_values.proofs.search.order.Given as goal

abbrev pub invariant-loop-root : goal.invariant-loop-root
invariant-loop-root l = record {
  search : IsSearching l.graph l.search;
  path : l.search.path.items ≡ [];
  entered : (q : ℕ) → q < l.root → At l.search.marks.items q New → ⊥;
}
