-- What a hand's part is where it does its tasks one by one, in order.
use Rattle.std.specs.Prelude.{◌≡◌, ℕ, ◌+◌, ◌≤◌, ◌<◌, ◌⊎◌, true, List, [], ◌∷◌, ◌++◌, length, slice_index}
use Rattle.std.specs.List.{AllByRecursion}
use Rattle.ice_words.specs.declared.view.Claim.{Claim}
use Rattle.ice_words.specs.declared.view.Part.{Part}
use Rattle.ice_words.specs.declared.view.View.{View}
use Rattle.ice_core.specs.Routes.{times, sum_below, wires_of}
use Rattle.ice_words.specs.Views.{total, one, releases_of, holds_of, ends}
use Rattle.ice_words.specs.Rule.{IsClosing}

-- the task is done: all its old wires are released, and all wires of its new tree are held, in order
pub record IsFinished (olds news : List (List ℕ)) (c : Claim) : Type 0 where
  pub released : c.released ≡ wires_of olds c.task
  pub held : c.held ≡ wires_of news c.task

-- a front of the old wires is released, and, only where that is all, a front of the new tree is held
pub record IsUnderWay (olds news : List (List ℕ)) (c : Claim) : Type 0 where
  pub left : List ℕ
  pub released : c.released ++ left ≡ wires_of olds c.task
  pub rest : List ℕ
  pub held : c.held ++ rest ≡ wires_of news c.task
  pub first : (left ≡ []) ⊎ (c.held ≡ [])

-- the claims before one of the task n are done, and their numbers fall
abbrev pub AreFinished : List (List ℕ) → List (List ℕ) → ℕ → List Claim → Type 0
AreFinished olds news n [] = Unit {0}
AreFinished olds news n (c ∷ cs) = (c.task < n) × IsFinished olds news c × AreFinished olds news c.task cs

abbrev pub IsNewestUnderWay : List (List ℕ) → List (List ℕ) → List Claim → Type 0
IsNewestUnderWay olds news [] = Unit {0}
IsNewestUnderWay olds news (c ∷ cs) = IsUnderWay olds news c × AreFinished olds news c.task cs

abbrev pub IsNewestFinished : List (List ℕ) → List (List ℕ) → List Claim → Type 0
IsNewestFinished olds news [] = Unit {0}
IsNewestFinished olds news (c ∷ cs) = IsFinished olds news c

pub record IsLawful (olds news : List (List ℕ)) (p : Part) : Type 0 where
  pub claims : IsNewestUnderWay olds news p.claims
  pub ended : p.ended ≡ true → IsNewestFinished olds news p.claims

-- the part is lawful, and its hand was answered None or has claimed nothing
pub record IsSettled (olds news : List (List ℕ)) (p : Part) : Type 0 where
  pub lawful : IsLawful olds news p
  pub over : (p.ended ≡ true) ⊎ (p.claims ≡ [])

-- the counts at the close are those of the new trees beside the routes of the nets without a task, and the three numbers are what these trees need
pub record AreOfRoutes (v : View) (closed : List ℕ) (news : List (List ℕ)) : Type 0 where
  pub counts : (w : ℕ) → w < length v.counts
      → slice_index closed w + sum_below (length v.olds) (λ t. times w (wires_of v.olds t)) ≡ slice_index v.counts w + sum_below (length v.olds) (λ t. times w (wires_of news t))
  pub claims : total one v ≡ length v.olds
  pub releases : total releases_of v ≡ sum_below (length v.olds) (λ t. length (wires_of v.olds t))
  pub holds : total holds_of v ≡ sum_below (length v.olds) (λ t. length (wires_of news t))

-- where every part is lawful and settled, and some hand was answered None
abbrev pub ClosingLaw : Type 0
ClosingLaw = (v : View) (closed : List ℕ) (news : List (List ℕ)) → IsClosing v closed → 1 ≤ ends v → AllByRecursion (IsSettled v.olds news) v.parts → AreOfRoutes v closed news
