-- What a worker does is lawful, where the trees that it made are the new ones of its tasks, and at each moment the words show a state of the core.
use Rattle.std.specs.Prelude.{◌≡◌, ℕ, ◌≤◌, ◌⊎◌, List, ◌∷◌, false, length, take}
use Rattle.std.specs.List.{All, AllByRecursion}
use Rattle.atomic_table.specs.Table.{State}
use Rattle.ice_graph.specs.declared.tree.Tree.{Tree}
use Rattle.ice_core.specs.Routes.{numbers, wires_of}
use Rattle.ice_words.specs.declared.view.Part.{Part}
use Rattle.ice_words.specs.declared.view.View.{View}
use Rattle.ice_words.specs.Views.{claim_of, no_part}
use Rattle.ice_words.specs.Rule.{Holds, IsAfter}
use Rattle.ice_words.specs.Lawful.{IsLawful, IsSettled}
use Rattle.ice_words.specs.Deeds.{Deed, AreDeeds, done_all}
use Rattle.ice_words.specs.Showing.{IsShown, drawn_parts, state_of}
use Rattle.ice_worker.specs.Kits.{claims_of, done_part, Falls}

-- the new wires of each of these tasks are those of its tree
abbrev pub AreNewOf : List (List ℕ) → List (ℕ × Tree) → Type 0
AreNewOf news trees = All (λ (m : ℕ × Tree). numbers m.1.wires.items ≡ wires_of news m.0) trees

-- the part of a worker that was answered None is settled, and that of one that stopped is lawful
pub record IsWorkLawful (olds news : List (List ℕ)) (trees : List (ℕ × Tree)) : Type 0 where
  pub done : IsSettled olds news (done_part (claims_of olds trees))
  pub stopped : (number : ℕ) → IsAfter number (claims_of olds trees) → IsLawful olds news (record { claims = claim_of number ∷ claims_of olds trees; ended = false })

abbrev pub WorkIsLawful : Type 0
WorkIsLawful = (olds news : List (List ℕ)) (trees : List (ℕ × Tree)) → AreNewOf news trees → Falls (claims_of olds trees) → IsWorkLawful olds news trees

-- what the part of a worker that made these trees is at the end: it was answered None, or it stopped at a task that it claimed
abbrev pub IsWorkEnd : List (List ℕ) → List (ℕ × Tree) → Part → Type 0
IsWorkEnd olds trees p = (p ≡ done_part (claims_of olds trees)) ⊎ ((number : ℕ) × IsAfter number (claims_of olds trees) × (p ≡ record { claims = claim_of number ∷ claims_of olds trees; ended = false }))

-- the part of a hand at some moment, where a worker alone uses the hand: of the hand's steps, each of which meets the conditions of its call, so many are
-- done, and behind all of them the part is that of a worker that made the new trees of its tasks
pub record IsAtWork (olds news : List (List ℕ)) (p : Part) : Type 0 where
  pub deeds : List Deed
  pub may : AreDeeds olds no_part deeds
  pub trees : List (ℕ × Tree)
  pub made : AreNewOf news trees
  pub falls : Falls (claims_of olds trees)
  pub end : IsWorkEnd olds trees (done_all no_part deeds)
  pub done : ℕ
  pub now : p ≡ done_all no_part (take done deeds)

-- where the rule holds, workers alone use the hands, and at most eight of these have drawn a number, the words show a state of the core
abbrev pub WorkShowsCore : Type 0
WorkShowsCore = (olds news : List (List ℕ)) (counts : List ℕ) (s : State ℕ View) → Holds olds counts s → AllByRecursion (λ v. AllByRecursion (IsAtWork olds news) v.parts) s.views → length (drawn_parts s.views) ≤ 8
    → IsShown olds news counts (state_of olds news s)
