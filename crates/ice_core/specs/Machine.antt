-- The core: a claim number, a count for each wire, what was posted, and workers; which events may happen, and what they do.
use Rattle.std.specs.Prelude.{◌≡◌, ℕ, zero, suc, ◌+◌, ◌-◌, ◌≤◌, Bool, true, false, List, [], ◌∷◌, Some, drop, length, min, nat_lt, if◌then◌else◌, slice_get, slice_set, slice_index, slice_index_or}
use Rattle.std.specs.List.{AllByRecursion}
use Rattle.ice_core.specs.declared.event.Event.{Event}
use Rattle.ice_core.specs.declared.event.Event.TheVariants.{Claim, Release, Hold, Post}
use Rattle.ice_core.specs.Routes.{wires_of}

-- a worker: the tasks that it claimed, the newest first, what of the newest it has still to release and to hold, whether it was given a number past
-- the tasks, and how many overuses came and went by it that it hasn't posted
pub record Worker : Type 0 where
  pub claimed : List ℕ
  pub left : List ℕ
  pub rest : List ℕ
  pub ended : Bool
  pub up : ℕ
  pub down : ℕ

pub record CoreState : Type 0 where
  pub number : ℕ
  pub counts : List ℕ
  pub up : ℕ
  pub down : ℕ
  pub workers : List Worker

-- a worker that has done nothing
abbrev pub idle : Worker
idle = record { claimed = []; left = []; rest = []; ended = false; up = 0; down = 0 }

-- ---- what may happen
abbrev pub MayClaim : Worker → Type 0
MayClaim u = (u.left ≡ []) × (u.rest ≡ []) × (u.ended ≡ false)

abbrev pub MayRelease : ℕ → Worker → Type 0
MayRelease w u = (wires : List ℕ) × (u.left ≡ w ∷ wires)

abbrev pub MayHold : ℕ → Worker → Type 0
MayHold w u = (u.left ≡ []) × ((wires : List ℕ) × (u.rest ≡ w ∷ wires))

abbrev pub Allowed : CoreState → Event → Type 0
Allowed s (Claim k) = (u : Worker) × (slice_get s.workers k ≡ Some u) × MayClaim u
Allowed s (Release k w) = (u : Worker) × (slice_get s.workers k ≡ Some u) × MayRelease w.0 u
Allowed s (Hold k w) = (u : Worker) × (slice_get s.workers k ≡ Some u) × MayHold w.0 u
Allowed s (Post k up) = (u : Worker) × (slice_get s.workers k ≡ Some u)

-- ---- what an event does
-- the task n is claimed
abbrev pub with_task : List (List ℕ) → List (List ℕ) → ℕ → Worker → Worker
with_task olds news n u = record { claimed = n ∷ u.claimed; left = wires_of olds n; rest = wires_of news n; ended = false; up = u.up; down = u.down }

abbrev pub ending : Worker → Worker
ending u = record { claimed = u.claimed; left = u.left; rest = u.rest; ended = true; up = u.up; down = u.down }

-- the number n is drawn
abbrev pub claiming : List (List ℕ) → List (List ℕ) → ℕ → Worker → Worker
claiming olds news n u = if nat_lt n (length olds) then with_task olds news n u else ending u

-- a wire is released, or held, whose count was n
abbrev pub releasing : ℕ → Worker → Worker
releasing n u = record { claimed = u.claimed; left = drop 1 u.left; rest = u.rest; ended = u.ended; up = u.up; down = u.down + min 1 (n - 1) }

abbrev pub holding : ℕ → Worker → Worker
holding n u = record { claimed = u.claimed; left = u.left; rest = drop 1 u.rest; ended = u.ended; up = u.up + min 1 n; down = u.down }

abbrev pub posting : Bool → Worker → Worker
posting true u = record { claimed = u.claimed; left = u.left; rest = u.rest; ended = u.ended; up = 0; down = u.down }
posting false u = record { claimed = u.claimed; left = u.left; rest = u.rest; ended = u.ended; up = u.up; down = 0 }

-- the worker k changes
abbrev pub changed_at : ℕ → (Worker → Worker) → List Worker → List Worker
changed_at k f [] = []
changed_at zero f (u ∷ us) = f u ∷ us
changed_at (suc k) f (u ∷ us) = u ∷ changed_at k f us

abbrev pub worker_at : CoreState → ℕ → Worker
worker_at s k = slice_index_or s.workers k idle

-- the state after an event, where these are the old and the new wires of the tasks
abbrev pub next : List (List ℕ) → List (List ℕ) → CoreState → Event → CoreState
next olds news s (Claim k) = record { number = s.number + 1; counts = s.counts; up = s.up; down = s.down; workers = changed_at k (claiming olds news s.number) s.workers }
next olds news s (Release k w) = record { number = s.number; counts = slice_set s.counts w.0 (slice_index s.counts w.0 - 1); up = s.up; down = s.down; workers = changed_at k (releasing (slice_index s.counts w.0)) s.workers }
next olds news s (Hold k w) = record { number = s.number; counts = slice_set s.counts w.0 (slice_index s.counts w.0 + 1); up = s.up; down = s.down; workers = changed_at k (holding (slice_index s.counts w.0)) s.workers }
next olds news s (Post k true) = record { number = s.number; counts = s.counts; up = s.up + (worker_at s k).up; down = s.down; workers = changed_at k (posting true) s.workers }
next olds news s (Post k false) = record { number = s.number; counts = s.counts; up = s.up; down = s.down + (worker_at s k).down; workers = changed_at k (posting false) s.workers }

-- allowed events lead from one state to the other
abbrev pub Leads : List (List ℕ) → List (List ℕ) → CoreState → List Event → CoreState → Type 0
Leads olds news s [] t = s ≡ t
Leads olds news s (e ∷ events) t = Allowed s e × Leads olds news (next olds news s e) events t

-- up to eight workers, none of which has done anything, nothing drawn and nothing posted, and the counts are the opening ones
pub record IsStart (opening : List ℕ) (s : CoreState) : Type 0 where
  pub number : s.number ≡ 0
  pub counts : s.counts ≡ opening
  pub up : s.up ≡ 0
  pub down : s.down ≡ 0
  pub idle : AllByRecursion (λ u. u ≡ record { claimed = []; left = []; rest = []; ended = false; up = 0; down = 0 }) s.workers
  pub few : length s.workers ≤ 8

-- allowed events lead to the state from a start
pub record IsReached (olds news : List (List ℕ)) (opening : List ℕ) (t : CoreState) : Type 0 where
  pub start : CoreState
  pub begins : IsStart opening start
  pub events : List Event
  pub leads : Leads olds news start events t
