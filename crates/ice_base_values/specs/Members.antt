-- Members of lists, and cycles of points.
use Rattle.std.specs.Prelude.{◌≡◌, ℕ, ◌+◌, ◌-◌, ◌<◌, Some, List, length, slice_get}

-- the point stands at place i of the list, the first place being 0
abbrev pub At : {P : Type 0} → List P → ℕ → P → Type 0
At points i point = slice_get points i ≡ Some point

-- the point stands somewhere in the list
abbrev pub Has : {P : Type 0} → List P → P → Type 0
Has points point = (i : ℕ) × At points i point

-- no point stands at two places of the list
abbrev pub StandOnce : {P : Type 0} → List P → Type 0
StandOnce {P} points = (i j : ℕ) (point : P) → At points i point → At points j point → i ≡ j

-- A cycle, the closed list of a combinational loop: each point depends on the next, and the last on the first. A point that
-- depends on itself is a cycle of one.
pub record IsCycle {P : Type 0} (depends : P → List P) (cycle : List P) : Type 0 where
  pub some : 0 < length cycle
  pub next : (i : ℕ) (point read : P) → At cycle i point → At cycle (i + 1) read → Has (depends point) read
  pub closed : (first last : P) → At cycle 0 first → At cycle (length cycle - 1) last → Has (depends last) first
