-- The core as a program keeps it.
use Rattle.std.specs.Prelude.{◌≡◌, ℕ, ◌+◌, ◌-◌, ◌≤◌, false, List, [], drop, length, map, reverse, vec_capacity}
use Rattle.std.specs.List.{AllByRecursion}
use Rattle.ice_core.specs.declared.progress.Progress.{Progress}
use Rattle.ice_core.specs.Routes.{wires_of, IsOpening, AreNews}
use Rattle.ice_core.specs.Machine.{Worker, CoreState, IsReached}

-- the tasks' old and new wires, and the state
pub record Moment : Type 0 where
  pub olds : List (List ℕ)
  pub news : List (List ℕ)
  pub state : CoreState

-- the worker whose progress it is
abbrev pub worker_by : List (List ℕ) → List (List ℕ) → Progress → Worker
worker_by olds news p = record { claimed = reverse p.claimed.items; left = drop p.released (wires_of olds p.task); rest = drop p.held (wires_of news p.task); ended = p.ended; up = p.up; down = p.down }

abbrev pub moment_of : List (List ℕ) → List (List ℕ) → ℕ → List ℕ → ℕ → ℕ → List Progress → Moment
moment_of olds news number counts up down workers = record { olds = olds; news = news; state = record { number = number; counts = counts; up = up; down = down; workers = map (worker_by olds news) workers } }

-- nothing is done, and there is room for so many tasks
pub record IsFresh (tasks : ℕ) (p : Progress) : Type 0 where
  pub claimed : p.claimed.items ≡ []
  pub task : p.task ≡ tasks
  pub released : p.released ≡ 0
  pub held : p.held ≡ 0
  pub ended : p.ended ≡ false
  pub up : p.up ≡ 0
  pub down : p.down ≡ 0
  pub room : tasks ≤ vec_capacity p.claimed

-- there is room for the tasks that nobody has claimed
abbrev pub HasRoom : ℕ → Progress → Type 0
HasRoom unclaimed p = length p.claimed.items + unclaimed ≤ vec_capacity p.claimed

-- the state is reached from opening counts that fit the tasks, and each worker has room
pub record IsRunning (m : Moment) (workers : List Progress) : Type 0 where
  pub opening : List ℕ
  pub fits : IsOpening m.olds opening
  pub news : AreNews m.olds m.news (length opening)
  pub reached : IsReached m.olds m.news opening m.state
  pub room : AllByRecursion (HasRoom (length m.olds - m.state.number)) workers
