use Rattle.std.proofs.Common.{length}
use Rattle.ice_base_values.specs.Graph.{depends_of}
use Rattle.ice_base_values.proofs.SearchSteps.{search_start}
use Rattle.ice_base_values.proofs.search.Search.new.Goals as goal

pub returns-clause-search : goal.returns-clause-search
returns-clause-search c rows e =
    rw (c.in_ok-vec.ensures.items_if_clones_equal (λ y h. h), c.in_ok-vec-2.ensures.items_if_clones_equal (λ y h. h), c.in_ok-with_capacity.ensures.items, c.in_ok-with_capacity-2.ensures.items, ← e)
    (search_start (length rows) (depends_of rows))
