-- What the routes hold at a moment of the core, counted task by task, and the law that the counts show it.
use Rattle.std.specs.Prelude.{◌≡◌, ℕ, ◌+◌, ◌-◌, ◌≤◌, ◌<◌, true, List, [], ◌∷◌, ◌++◌, length, map, take, drop, slice_index}
use Rattle.std.specs.List.{sum_by, AllByRecursion}
use Rattle.ice_core.specs.declared.event.Event.{Event}
use Rattle.ice_core.specs.Routes.{times, sum_below, wires_of, overuse, IsOpening}
use Rattle.ice_core.specs.Machine.{Worker, CoreState, IsStart, Leads}

-- of a task in change: what is held already of its new route, where this is still to be held
abbrev pub held_of : List ℕ → List ℕ → List ℕ
held_of new rest = take (length new - length rest) new

-- the routes of a worker's tasks: the newest in change, with what is not yet released of the old one, the others new
abbrev pub routes_by : List (List ℕ) → List ℕ → List ℕ → List ℕ → List (List ℕ)
routes_by news left rest [] = []
routes_by news left rest (t ∷ tasks) = (left ++ held_of (wires_of news t) rest) ∷ map (wires_of news) tasks

abbrev pub routes_of : List (List ℕ) → Worker → List (List ℕ)
routes_of news u = routes_by news u.left u.rest u.claimed

-- how many routes have the wire: those of nets without a task, those of tasks that nobody has claimed, and those of claimed tasks
abbrev pub holds : List (List ℕ) → List (List ℕ) → List ℕ → CoreState → ℕ → ℕ
holds olds news opening s w = (slice_index opening w - sum_by (times w) olds) + sum_by (times w) (drop s.number olds) + sum_by (λ u. sum_by (times w) (routes_of news u)) s.workers

-- when all workers have ended, each task was claimed by one of them, whatever is counted over tasks; its route is its new one; and the counts are
-- those of the new routes beside the routes of nets without a task
pub record HaveEnded (olds news : List (List ℕ)) (opening : List ℕ) (t : CoreState) : Type 0 where
  pub claimed : (f : ℕ → ℕ) → sum_by (λ u. sum_by f u.claimed) t.workers ≡ sum_below (length olds) f
  pub routes : AllByRecursion (λ u. routes_of news u ≡ map (wires_of news) u.claimed) t.workers
  pub counts : (w : ℕ) → w < length opening → slice_index t.counts w ≡ (slice_index opening w - sum_by (times w) olds) + sum_by (times w) news

-- each count is what the routes hold, and the overuse of the opening counts, what was posted up and all workers' up are together the overuse of the counts,
-- what was posted down and all workers' down
pub record AreCounted (olds news : List (List ℕ)) (opening : List ℕ) (t : CoreState) : Type 0 where
  pub each : (w : ℕ) → w < length opening → slice_index t.counts w ≡ holds olds news opening t w
  pub balance : overuse opening + t.up + sum_by (λ u. u.up) t.workers ≡ overuse t.counts + t.down + sum_by (λ u. u.down) t.workers
  pub ended : 1 ≤ length t.workers → AllByRecursion (λ u. u.ended ≡ true) t.workers → HaveEnded olds news opening t

-- this is so over every list of allowed events
abbrev pub CoreCounts : Type 0
CoreCounts = (olds news : List (List ℕ)) (opening : List ℕ) (s t : CoreState) (events : List Event) → IsOpening olds opening → length news ≡ length olds → IsStart opening s → Leads olds news s events t → AreCounted olds news opening t
