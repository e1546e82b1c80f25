use Rattle.ice_base_values.specs.SearchState.{IsSearching, NewOnly, work}
use Rattle.ice_base_values.proofs.search.Search.visit.Given as goal

abbrev pub invariant-loop-point : goal.invariant-loop-point
invariant-loop-point l = record { search : IsSearching l.graph l.self; entered : NewOnly l.fn.self l.self l.root }

abbrev pub decreases-loop-point : goal.decreases-loop-point
decreases-loop-point l = work l.self
