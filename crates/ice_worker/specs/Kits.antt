-- What a worker has made after so many tasks, and what its hand has done.
use Rattle.std.specs.Prelude.{◌≡◌, ℕ, ◌+◌, ◌++◌, true, List, [], ◌∷◌, Some, length, slice_get}
use Rattle.std.specs.List.{fold}
use Rattle.ice_graph.specs.declared.tree.Tree.{Tree}
use Rattle.ice_graph.specs.Network.{Network}
use Rattle.ice_core.specs.declared.round_prices.RoundPrices.{RoundPrices}
use Rattle.ice_core.specs.declared.task.Task.{Task}
use Rattle.ice_core.specs.Routes.{numbers, wires_of}
use Rattle.ice_path.specs.Room.{IsFor}
use Rattle.ice_negotiate_defs.specs.Rounds.{AreOpen}
use Rattle.ice_negotiate_defs.specs.Trees.{IsCause}
use Rattle.ice_negotiate_defs.specs.declared.stop.TreeStop.{TreeStop}
use Rattle.ice_negotiate_defs.specs.declared.stop.TreeStop.TheVariants.{Unreachable as Cut, NoMemory as Memory}
use Rattle.ice_words.specs.declared.view.Claim.{Claim}
use Rattle.ice_words.specs.declared.view.Part.{Part}
use Rattle.ice_words.specs.declared.view.View.{View}
use Rattle.ice_words.specs.Views.{no_part, with_own, posted, claim_of}
use Rattle.ice_words.specs.Rule.{IsAfter}
use Rattle.ice_worker.specs.declared.kit.Kit.{Kit}
use Rattle.ice_worker.specs.declared.stop.WorkStop.{WorkStop}
use Rattle.ice_worker.specs.declared.stop.WorkStop.TheVariants.{Unreachable, NoMemory}
use Rattle.ice_worker.specs.Tasks.{IsMade}
use Rattle.ice_worker.specs.Work.{changing, finished_as}

-- the trees in a kit, each with the number of its task
abbrev pub made_by : Kit → List (ℕ × Tree)
made_by kit = kit.trees.items

-- the kit is of this graph
pub record IsKitOf (graph : Network) (kit : Kit) : Type 0 where
  pub room : IsFor graph kit.scratch
  pub histories : length kit.prices.history.items ≡ graph.wires
  pub others : length kit.prices.others.items ≡ graph.wires

-- the kit is of this graph, and its prices are those of the round with all nets among the others
pub record IsBegun (graph : Network) (r : RoundPrices) (kit : Kit) : Type 0 where
  pub room : IsFor graph kit.scratch
  pub prices : AreOpen r.round r.history.items r.counts.items kit.prices

-- the claim of a task that is done with this tree
abbrev pub finished : List (List ℕ) → (ℕ × Tree) → Claim
finished olds m = record { task = m.0; released = wires_of olds m.0; held = numbers m.1.wires.items }

-- the claims of these tasks, the last the newest
abbrev pub claims_of : List (List ℕ) → List (ℕ × Tree) → List Claim
claims_of olds trees = fold (λ (cs : List Claim) (m : ℕ × Tree). finished olds m ∷ cs) [] trees

-- a part with these claims whose hand was answered None
abbrev pub done_part : List Claim → Part
done_part cs = record { claims = cs; ended = true }

-- the own part has these claims
abbrev pub with_claims : List Claim → View → View
with_claims cs v = with_own (λ p. record { claims = cs; ended = p.ended }) v

-- the hand has claimed nothing and was never answered None
abbrev pub AreFresh : List Part → Type 0
AreFresh [] = ⊥
AreFresh (p ∷ ps) = p ≡ no_part

abbrev pub IsFresh : View → Type 0
IsFresh v = AreFresh v.parts

-- the tasks of the claims fall from the newest on
abbrev pub Falls : List Claim → Type 0
Falls [] = Unit {0}
Falls (c ∷ cs) = IsAfter c.task cs × Falls cs

-- a task was done, and its tree added; the two numbers aside
abbrev pub AddsOne : Network → RoundPrices → List Task → ℕ → View → View → List (ℕ × Tree) → List (ℕ × Tree) → Type 0
AddsOne graph r tasks number old new before after = (m : ℕ × Tree) × (m.0 ≡ number) × IsMade graph r tasks m
    × (posted new ≡ posted (with_own (changing (finished_as (wires_of old.olds number) (numbers m.1.wires.items))) old)) × (after ≡ before ++ m ∷ [])

-- why a task isn't done
abbrev pub Stops : Network → List Task → ℕ → WorkStop → Type 0
Stops graph tasks number (Unreachable task sink) = (task ≡ number) × ((t : Task) × (slice_get tasks task ≡ Some t) × IsCause graph.edges t.root t.sinks.items (Cut sink))
Stops graph tasks number NoMemory = Unit {0}

abbrev pub stop_as : ℕ → TreeStop → WorkStop
stop_as number (Cut sink) = Unreachable number sink
stop_as number Memory = NoMemory

-- the worker stopped at a task that comes after those of its trees: it is claimed, nothing of it is released or held, and all is posted
pub record StopsAt (graph : Network) (tasks : List Task) (old new : View) (trees : List (ℕ × Tree)) (stop : WorkStop) : Type 0 where
  pub number : ℕ
  pub cause : Stops graph tasks number stop
  pub after : IsAfter number (claims_of old.olds trees)
  pub view : new ≡ posted (with_claims (claim_of number ∷ claims_of old.olds trees) old)

-- one more than the newest task
abbrev pub next_of : List Claim → ℕ
next_of [] = 0
next_of (c ∷ cs) = c.task + 1
