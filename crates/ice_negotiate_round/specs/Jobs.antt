-- Workers before and after their work.
use Rattle.std.specs.Prelude.{◌≡◌, ℕ, false, List, [], ◌∷◌, None, Some}
use Rattle.std.specs.List.{All}
use Rattle.ice_graph.specs.Network.{Network}
use Rattle.ice_core.specs.declared.round_prices.RoundPrices.{RoundPrices}
use Rattle.ice_core.specs.declared.task.Task.{Task}
use Rattle.ice_core.specs.Routes.{old_wires}
use Rattle.ice_words.specs.declared.view.Part.{Part}
use Rattle.ice_words.specs.declared.view.View.{View}
use Rattle.ice_words.specs.Views.{no_part, claim_of}
use Rattle.ice_words.specs.Grips.{Board, IsHandOf}
use Rattle.ice_worker.specs.declared.stop.WorkStop.{WorkStop}
use Rattle.ice_worker.specs.Tasks.{IsMade, ArePlayable}
use Rattle.ice_worker.specs.Kits.{IsKitOf, Falls, Stops, claims_of, done_part, made_by}
use Rattle.ice_negotiate_round.specs.declared.jobs.Job.{Job}

-- the words are those of these tasks in the prices of the round
pub record AreStarted (graph : Network) (r : RoundPrices) (tasks : List Task) (board : Board) : Type 0 where
  pub playable : ArePlayable graph r tasks
  pub olds : board.olds ≡ old_wires tasks
  pub counts : board.counts ≡ r.counts.items

-- the main view after so many splits, with so many hands out, and these parts behind its own
abbrev pub main_view : Board → ℕ → ℕ → List Part → View
main_view board splits out parts = record { olds = board.olds; counts = board.counts; main = 1; worker = 0; out = out; splits = splits; up = 0; down = 0; parts = no_part ∷ parts }

-- the view of a worker with this part
abbrev pub worker_of : Board → Part → View
worker_of board part = record { olds = board.olds; counts = board.counts; main = 0; worker = 1; out = 0; splits = 0; up = 0; down = 0; parts = part ∷ [] }

-- a worker that has done nothing
pub record IsWaiting (graph : Network) (board : Board) (job : Job) : Type 0 where
  pub of : IsHandOf board job.hand
  pub view : job.hand.view ≡ worker_of board no_part
  pub kit : IsKitOf graph job.kit

-- a worker that has worked
pub record HasWorked (graph : Network) (r : RoundPrices) (tasks : List Task) (board : Board) (job : Job) : Type 0 where
  pub of : IsHandOf board job.hand
  pub part : Part
  pub view : job.hand.view ≡ worker_of board part
  pub done : job.stop ≡ None → part ≡ done_part (claims_of board.olds (made_by job.kit))
  pub made : All (IsMade graph r tasks) (made_by job.kit)
  pub falls : Falls (claims_of board.olds (made_by job.kit))
  pub stop : (stop : WorkStop) → job.stop ≡ Some stop → (number : ℕ) × Stops graph tasks number stop × (part ≡ record { claims = claim_of number ∷ claims_of board.olds (made_by job.kit); ended = false })
  pub kit : IsKitOf graph job.kit
