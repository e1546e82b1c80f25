-- Paths of points, and how long they are. Nothing of a chip stands in these.
use Rattle.std.specs.Prelude.{◌≡◌, ℕ, ◌+◌, ◌-◌, ◌<◌, ◌≤◌, List, [], ◌∷◌, length, sum_by}
use Rattle.ice_base_values.specs.Order.{At, Has}
use Rattle.ice_decode.specs.declared.point.Point.{Point}

-- the first point depends on nothing, and each later one depends on the one before
pub record IsPath {P : Type 0} (depends : P → List P) (path : List P) : Type 0 where
  pub some : 0 < length path
  pub first : (p : P) → At path 0 p → depends p ≡ []
  pub later : (i : ℕ) (p q : P) → At path i p → At path (i + 1) q → Has (depends q) p

-- a path whose last point is this one
pub record IsPathTo {P : Type 0} (depends : P → List P) (path : List P) (last : P) : Type 0 where
  pub is_path : IsPath depends path
  pub ends : At path (length path - 1) last

-- when the signal is at the first point, and the delays of the later ones
abbrev pub length_of : {P : Type 0} → (P → ℕ) → (P → ℕ) → List P → ℕ
length_of first delay [] = 0
length_of first delay (p ∷ later) = first p + sum_by delay later

-- The arrival at a point: some path to it is so long, and none is longer.
pub record IsArrival {P : Type 0} (depends : P → List P) (first delay : P → ℕ) (p : P) (arrival : ℕ) : Type 0 where
  pub path : List P
  pub leads : IsPathTo depends path p
  pub long : length_of first delay path ≡ arrival
  pub most : (other : List P) → IsPathTo depends other p → length_of first delay other ≤ arrival

-- Numbers that are nowhere below the start at a point that depends on nothing, nor below that of a point on which another depends
-- and its own delay, bound every path. So who sees these two inequalities need not trust how the numbers were found.
abbrev pub CertificatesBoundPaths : Type 0
CertificatesBoundPaths = (depends : Point → List Point) (first delay bound : Point → ℕ)
    → ((p : Point) → depends p ≡ [] → first p ≤ bound p)
    → ((p q : Point) → Has (depends p) q → bound q + delay p ≤ bound p)
    → (path : List Point) (last : Point) → IsPathTo depends path last → length_of first delay path ≤ bound last
