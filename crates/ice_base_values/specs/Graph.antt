-- Graphs of dependences as rows: row p is the list of the points that point p depends on.
use Rattle.std.specs.Prelude.{◌≡◌, ℕ, ◌<◌, ◌≤◌, List, [], ◌∷◌, length, slice_index_or, slice_range}
use Rattle.ice_base_values.specs.Order.{Has}

-- what a point depends on; nothing, past the last row
abbrev pub depends_of : List (List ℕ) → ℕ → List ℕ
depends_of rows point = slice_index_or rows point []

-- each point depends on points of the graph alone
pub record IsWithin (rows : List (List ℕ)) : Type 0 where
  pub points : (point read : ℕ) → Has (depends_of rows point) read → read < length rows

-- the rows that stand one after another in a flat list, by the places at which they end, the first of them beginning at `start`
abbrev pub rows_of : ℕ → List ℕ → List ℕ → List (List ℕ)
rows_of start [] flat = []
rows_of start (end ∷ ends) flat = slice_range flat start end ∷ rows_of end ends flat

-- no row ends before it begins, and the last ends where the flat list does, which has `total` entries
abbrev pub AreEnds : ℕ → List ℕ → ℕ → Type 0
AreEnds start [] total = start ≡ total
AreEnds start (end ∷ ends) total = (start ≤ end) × AreEnds end ends total
