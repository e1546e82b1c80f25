-- The longest path of a configured chip.
use Rattle.std.specs.Prelude.{◌≡◌, ℕ, ◌+◌, ◌≤◌, List, Option, None, Some, map}
use Rattle.ice_base_values.specs.Order.{At, Has}
use Rattle.ice_chip.specs.Database.{Parts}
use Rattle.ice_bits.specs.Configuration.{Bits}
use Rattle.ice_decode.specs.declared.point.Point.{Point}
use Rattle.ice_timing_delays.specs.declared.delays.Delays.{Delays}
use Rattle.ice_timing.specs.declared.end.Entry.{Entry}
use Rattle.ice_timing.specs.declared.end.TimedPath.{TimedPath}
use Rattle.ice_timing.specs.declared.latest_end.Moment.{Moment}
use Rattle.ice_timing.specs.Entries.{door_delay, entries}
use Rattle.ice_timing.specs.PointDelays.{IsChipPathTo, path_length, IsArrivalAt}

-- each of these moments is the arrival at its point
abbrev pub AreArrivals : Parts → Bits → List (ℕ × ℕ × ℕ) → Delays → List (Point × ℕ) → Type 0
AreArrivals parts bits extras d points = (i : ℕ) (point : Point × ℕ) → At points i point → IsArrivalAt parts bits extras d point.0 point.1

abbrev pub points_of : List (Point × ℕ) → List Point
points_of points = map (λ (point : Point × ℕ). point.0) points

-- a path to this point, with the arrivals at its points; none is longer
pub record IsTimedTo (parts : Parts) (bits : Bits) (extras : List (ℕ × ℕ × ℕ)) (d : Delays) (last : Point) (points : List (Point × ℕ)) : Type 0 where
  pub leads : IsChipPathTo parts bits extras (points_of points) last
  pub arrivals : AreArrivals parts bits extras d points
  pub long : IsArrivalAt parts bits extras d last (path_length parts bits extras d (points_of points))

-- Its points are a path to an end, each with its arrival; its length is said; and no path to an end is longer.
pub record IsLongest (parts : Parts) (bits : Bits) (extras : List (ℕ × ℕ × ℕ)) (d : Delays) (t : TimedPath) : Type 0 where
  pub entry : Entry
  pub is_entry : Has (entries parts bits) entry
  pub end : entry.end ≡ t.end
  pub leads : IsChipPathTo parts bits extras (points_of t.points.items) entry.last
  pub arrivals : AreArrivals parts bits extras d t.points.items
  pub at : t.at ≡ path_length parts bits extras d (points_of t.points.items) + door_delay d entry.door
  pub most : (other : Entry) (path : List Point) → Has (entries parts bits) other → IsChipPathTo parts bits extras path other.last
      → path_length parts bits extras d path + door_delay d other.door ≤ t.at

-- no path leads to an end
abbrev pub NoneLeads : Parts → Bits → List (ℕ × ℕ × ℕ) → Type 0
NoneLeads parts bits extras = (entry : Entry) (path : List Point) → Has (entries parts bits) entry → IsChipPathTo parts bits extras path entry.last → ⊥

-- a longest path, or none where none leads to an end
abbrev pub IsFound : Parts → Bits → List (ℕ × ℕ × ℕ) → Delays → Option TimedPath → Type 0
IsFound parts bits extras d None = NoneLeads parts bits extras
IsFound parts bits extras d (Some t) = IsLongest parts bits extras d t

-- ---- as it is found
-- a signal gets into the end at this moment
pub record IsMoment (parts : Parts) (bits : Bits) (extras : List (ℕ × ℕ × ℕ)) (d : Delays) (entry : Entry) (at : ℕ) : Type 0 where
  pub arrival : ℕ
  pub right : IsArrivalAt parts bits extras d entry.last arrival
  pub is : at ≡ arrival + door_delay d entry.door

-- the latest of these entries
pub record IsLatestEntry (parts : Parts) (bits : Bits) (extras : List (ℕ × ℕ × ℕ)) (d : Delays) (entries : List Entry) (m : Moment) : Type 0 where
  pub one : Has entries m.entry
  pub moment : IsMoment parts bits extras d m.entry m.at
  pub most : (other : Entry) → Has entries other → (at : ℕ) × IsMoment parts bits extras d other at × (at ≤ m.at)
