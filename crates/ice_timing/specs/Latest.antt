-- The latest of some points, by a table of when a signal is at each of the numbered points.
use Rattle.std.specs.Prelude.{◌≡◌, ℕ, ◌≤◌, List, [], Option, None, Some, slice_index_or}
use Rattle.ice_base_values.specs.Order.{At, Has}
use Rattle.ice_decode.specs.declared.point.Point.{Point}

-- the number of the entry that is the greatest of those with these numbers
pub record IsLatestOf (at numbers : List ℕ) (n : ℕ) : Type 0 where
  pub one : Has numbers n
  pub most : (m : ℕ) → Has numbers m → slice_index_or at m 0 ≤ slice_index_or at n 0

-- the number of the latest of these points
pub record IsLatestRead (points : List Point) (at : List ℕ) (reads : List Point) (n : ℕ) : Type 0 where
  pub point : Point
  pub one : Has reads point
  pub stands : At points n point
  pub most : (q : Point) (m : ℕ) → Has reads q → At points m q → slice_index_or at m 0 ≤ slice_index_or at n 0

-- the latest of what is read, or nothing where nothing is read
abbrev pub IsLatest : List Point → List ℕ → List Point → Option ℕ → Type 0
IsLatest points at reads None = reads ≡ []
IsLatest points at reads (Some n) = IsLatestRead points at reads n
