-- Orders of evaluation and cycles of points.
use Rattle.std.specs.Prelude.{◌≡◌, ℕ, ◌<◌, List, length}
pub use Rattle.ice_base_values.specs.Members.{At, Has, StandOnce, IsCycle}

-- each point of the list stands after all the points that it depends on
abbrev pub StandsAfter : {P : Type 0} → (P → List P) → List P → Type 0
StandsAfter {P} depends order = (i : ℕ) (point read : P) → At order i point → Has (depends point) read → (j : ℕ) × (j < i) × At order j read

-- R ranks points by numbers (a point may have several ranks, or none), and what a ranked point depends on has a lower rank
abbrev pub Descends : {P : Type 0} → (P → List P) → (ℕ → P → Type 0) → Type 0
Descends {P} depends R = (rank : ℕ) (point read : P) → R rank point → Has (depends point) read → (lower : ℕ) × (lower < rank) × R lower read

-- An order of evaluation of the points below `points`: it has each of them once, after all the points that it depends on. An
-- evaluator that goes through it from the front finds what each point reads ready.
pub record IsOrder (points : ℕ) (depends : ℕ → List ℕ) (order : List ℕ) : Type 0 where
  -- it is as long as there are points
  pub count : length order ≡ points
  -- it has points below `points` alone
  pub within : (i point : ℕ) → At order i point → point < points
  -- it has each of them
  pub each : (point : ℕ) → point < points → Has order point
  -- none stands twice
  pub once : StandOnce order
  -- each stands after what it depends on
  pub after : StandsAfter depends order

-- a cycle of points below `points`
pub record IsCycleBelow (points : ℕ) (depends : ℕ → List ℕ) (cycle : List ℕ) : Type 0 where
  pub within : (i point : ℕ) → At cycle i point → point < points
  pub closes : IsCycle depends cycle

-- a cycle of points below `points` that passes each of its points once
pub record IsSimpleCycle (points : ℕ) (depends : ℕ → List ℕ) (cycle : List ℕ) : Type 0 where
  pub below : IsCycleBelow points depends cycle
  pub once : StandOnce cycle
