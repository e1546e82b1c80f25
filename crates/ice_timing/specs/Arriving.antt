-- When a signal arrives at each point of a configured chip.
use Rattle.std.specs.Prelude.{◌≡◌, ◌⊎◌, ℕ, ◌+◌, ◌*◌, ◌^◌, ◌<◌, ◌≤◌, Option, None, Some, List, [], length, slice_index_or}
use Rattle.ice_base_values.specs.Order.{At, Has}
use Rattle.ice_chip.specs.Database.{Parts}
use Rattle.ice_bits.specs.Configuration.{Bits}
use Rattle.ice_decode.specs.declared.point.Point.{Point}
use Rattle.ice_decode.specs.Points.{AreAllPoints}
use Rattle.ice_decode.specs.Reads.{depends_on}
use Rattle.ice_timing_delays.specs.declared.delays.Delays.{Delays}
use Rattle.ice_timing.specs.PointDelays.{start_of, delay_of, IsArrivalAt}
use Rattle.ice_timing.specs.Latest.{IsLatestRead}
use Rattle.ice_timing.specs.declared.arrivals.Arrivals.TheInside.{Inside}

-- the points, and when a signal is at each
pub record ArrivalsData : Type 0 where
  pub points : List Point
  pub at : List ℕ

-- the signal is there at this point at this moment
abbrev pub Arrives : ArrivalsData → Point → ℕ → Type 0
Arrives a p moment = (i : ℕ) × At a.points i p × At a.at i moment

-- The arrivals at all points. The last part is the certificate: it says nothing of paths, and bounds every path (`CertificatesBoundPaths`).
pub record AreArrivalsOf (parts : Parts) (bits : Bits) (extras : List (ℕ × ℕ × ℕ)) (d : Delays) (a : ArrivalsData) : Type 0 where
  pub points : AreAllPoints parts a.points
  -- each point has one
  pub each : (p : Point) → Has a.points p → (moment : ℕ) × Arrives a p moment
  -- some path to each point is so long, and none is longer
  pub right : (p : Point) (moment : ℕ) → Arrives a p moment → IsArrivalAt parts bits extras d p moment
  -- no point is earlier than one on which it depends, and its own delay
  pub certificate : (p q : Point) (there before : ℕ) → Arrives a p there → Arrives a q before → Has (depends_on parts bits extras p) q
      → before + delay_of parts bits d p ≤ there

-- ---- as they are kept
-- no entry of a table is above this
abbrev pub AreWithin : ℕ → List ℕ → Type 0
AreWithin most at = (n : ℕ) → slice_index_or at n 0 ≤ most

abbrev pub arrivals_view : Inside → ArrivalsData
arrivals_view a = record { points = a.numbering; at = a.at.items }

-- each point has its moment, and there is room for what comes behind it
pub record AreWellKept (a : Inside) : Type 0 where
  pub long : length a.at.items ≡ length a.numbering
  pub within : AreWithin (2 ^ 63) a.at.items

-- the latest of the points that are read
pub record IsLatestPoint (a : ArrivalsData) (reads : List Point) (p : Point) : Type 0 where
  pub one : Has reads p
  pub moment : ℕ
  pub arrives : Arrives a p moment
  pub most : (q : Point) (other : ℕ) → Has reads q → Arrives a q other → other ≤ moment

-- the latest, or nothing where nothing is read
abbrev pub IsBefore : ArrivalsData → List Point → Option Point → Type 0
IsBefore a reads None = reads ≡ []
IsBefore a reads (Some p) = IsLatestPoint a reads p

-- ---- as they are found

-- the moment of a point that depends on nothing is its start, and else that of the latest point on which it depends, and its delay
pub record IsBehind (parts : Parts) (bits : Bits) (extras : List (ℕ × ℕ × ℕ)) (d : Delays) (points : List Point) (at : List ℕ) (p : Point) (moment : ℕ) : Type 0 where
  pub number : ℕ
  pub latest : IsLatestRead points at (depends_on parts bits extras p) number
  pub is : moment ≡ slice_index_or at number 0 + delay_of parts bits d p

pub record IsStart (parts : Parts) (bits : Bits) (extras : List (ℕ × ℕ × ℕ)) (d : Delays) (p : Point) (moment : ℕ) : Type 0 where
  pub free : depends_on parts bits extras p ≡ []
  pub is : moment ≡ start_of parts bits extras d p

abbrev pub IsReached : Parts → Bits → List (ℕ × ℕ × ℕ) → Delays → List Point → List ℕ → Point → ℕ → Type 0
IsReached parts bits extras d points at p moment = IsStart parts bits extras d p moment ⊎ IsBehind parts bits extras d points at p moment

-- a moment that comes at most one delay after all of a table
abbrev pub IsSoon : List ℕ → ℕ → Type 0
IsSoon at moment = (most : ℕ) → AreWithin most at → moment ≤ most + 2 ^ 32

-- the first points of an order have their moments in the table
pub record AreFilled (parts : Parts) (bits : Bits) (extras : List (ℕ × ℕ × ℕ)) (d : Delays) (points order : List Point) (count : ℕ) (at : List ℕ) : Type 0 where
  pub long : length at ≡ length points
  pub right : (j : ℕ) (p : Point) (n : ℕ) → j < count → At order j p → At points n p → IsArrivalAt parts bits extras d p (slice_index_or at n 0)
  pub within : AreWithin (count * 2 ^ 32) at
