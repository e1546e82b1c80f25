-- What the search for an order keeps true, of the program's own record.
use Rattle.std.specs.Prelude.{◌≢◌, ℕ, ◌+◌, ◌*◌, ◌<◌, List, length, drop}
use Rattle.ice_base_values.specs.Order.{At, IsSimpleCycle}
use Rattle.ice_base_values.specs.Graph.{depends_of}
use Rattle.ice_base_values.specs.Search.{new_count, IsSearch}
use Rattle.ice_base_values.specs.declared.search.Search.{Search}
use Rattle.ice_base_values.specs.declared.search.Mark.TheVariants.{New}

-- the search is at some point of its way through the graph
abbrev pub IsSearching : List (List ℕ) → Search → Type 0
IsSearching rows search = IsSearch (length rows) (depends_of rows) search.marks.items search.next.items search.path.items search.order.items

-- how many moves are left at most: a point that is new will be entered and left, and one on the path will be left
abbrev pub work : Search → ℕ
work search = 2 * new_count search.marks.items + length search.path.items

-- a move that goes on: less is left to do, and no point that has been entered is new again
pub record GoesOn (rows : List (List ℕ)) (old new : Search) : Type 0 where
  pub search : IsSearching rows new
  pub less : work new < work old
  pub entered : (point : ℕ) → At new.marks.items point New → At old.marks.items point New

-- the points that are new now were new before, and the root isn't one of them
abbrev pub NewOnly : Search → Search → ℕ → Type 0
NewOnly old new root = (point : ℕ) → At new.marks.items point New → At old.marks.items point New × (point ≢ root)

-- the path from this place on is a cycle
abbrev pub ClosesCycle : List (List ℕ) → Search → ℕ → Type 0
ClosesCycle rows search start = IsSimpleCycle (length rows) (depends_of rows) (drop start search.path.items)
