-- What holds of the table between any two steps.
use Rattle.std.specs.Prelude.{◌≡◌, ℕ, ◌+◌, ◌≤◌, ◌<◌, ◌⊎◌, ◌^◌, true, List, [], ◌∷◌, ◌++◌, Some, length, drop, min, slice_get, slice_index}
use Rattle.std.specs.List.{sum_by, AllByRecursion}
use Rattle.atomic_table.specs.Table.{State}
use Rattle.ice_words_hands.specs.Standing.{AreSeated}
use Rattle.ice_words.specs.declared.view.Claim.{Claim}
use Rattle.ice_words.specs.declared.view.Part.{Part}
use Rattle.ice_words.specs.declared.view.View.{View}
use Rattle.ice_core.specs.Routes.{times, overuse, sum_below, wires_of, IsOpening}
use Rattle.ice_words.specs.Views.{total, total_of, one, task_by, released_on, held_on, releases_of, holds_of, ends, claiming, ending, with_own, own, standing_of}

-- the task's old wires are all released
abbrev pub IsReleased : List (List ℕ) → Claim → Type 0
IsReleased olds c = c.released ≡ wires_of olds c.task

-- a front of the task's old wires is released, and wires are held, each once, only where all are released
pub record IsClaim (olds : List (List ℕ)) (wires : ℕ) (c : Claim) : Type 0 where
  pub task : c.task < length olds
  pub left : List ℕ
  pub released : c.released ++ left ≡ wires_of olds c.task
  pub first : (left ≡ []) ⊎ (c.held ≡ [])
  pub once : (w : ℕ) → times w c.held ≤ 1
  pub within : AllByRecursion (λ w. w < wires) c.held

-- claims before one of the task n, the newest first: their numbers fall, and they are released whole
abbrev pub AreBefore : List (List ℕ) → ℕ → List Claim → Type 0
AreBefore olds n [] = Unit {0}
AreBefore olds n (c ∷ cs) = (c.task < n) × IsReleased olds c × AreBefore olds c.task cs

abbrev pub AreInOrder : List (List ℕ) → List Claim → Type 0
AreInOrder olds [] = Unit {0}
AreInOrder olds (c ∷ cs) = AreBefore olds c.task cs

abbrev pub IsNewestReleased : List (List ℕ) → List Claim → Type 0
IsNewestReleased olds [] = Unit {0}
IsNewestReleased olds (c ∷ cs) = IsReleased olds c

-- the newest claim is of a lower number than n
abbrev pub IsAfter : ℕ → List Claim → Type 0
IsAfter n [] = Unit {0}
IsAfter n (c ∷ cs) = c.task < n

pub record IsPart (olds : List (List ℕ)) (wires : ℕ) (p : Part) : Type 0 where
  pub claims : AllByRecursion (IsClaim olds wires) p.claims
  pub order : AreInOrder olds p.claims
  pub ended : p.ended ≡ true → IsNewestReleased olds p.claims

pub record IsView (olds : List (List ℕ)) (counts : List ℕ) (v : View) : Type 0 where
  pub same : 1 ≤ v.main + v.worker → (v.olds ≡ olds) × (v.counts ≡ counts)
  -- the numbers are at most what the view holds and released: none where it has no part
  pub ups : v.up ≤ total holds_of v
  pub downs : v.down ≤ total releases_of v
  pub parts : AllByRecursion (IsPart olds (length counts)) v.parts

pub record Holds (olds : List (List ℕ)) (counts : List ℕ) (s : State ℕ View) : Type 0 where
  pub opening : IsOpening olds counts
  pub words : length s.words ≡ length counts + 3
  pub seated : AreSeated standing_of s.views
  pub views : AllByRecursion (IsView olds counts) s.views
  -- each number below word 0 and below the number of tasks is claimed once, and no other: however numbers are weighed, the weights agree
  pub draws : (f : ℕ → ℕ) → total_of (task_by f) s.views ≡ sum_below (min (slice_index s.words 0) (length olds)) f
  pub drawn : slice_index s.words 0 ≡ total_of one s.views + sum_by ends s.views
  pub wires : (w : ℕ) → w < length counts → slice_index s.words (w + 3) + total_of (released_on w) s.views ≡ slice_index counts w + total_of (held_on w) s.views
  -- what is posted and what is still to be posted is the change of the overuse
  pub posts : overuse counts + slice_index s.words 1 + sum_by (λ v. v.up) s.views ≡ overuse (drop 3 s.words) + slice_index s.words 2 + sum_by (λ v. v.down) s.views
  pub ups : slice_index s.words 1 + sum_by (λ v. v.up) s.views ≤ total_of holds_of s.views
  pub downs : slice_index s.words 2 + sum_by (λ v. v.down) s.views ≤ total_of releases_of s.views

-- ---- what a step tells its hand
-- a number was drawn: below the number of tasks it is claimed, and it is above those that the hand claimed before
pub record Draws (v : View) (n : ℕ) (w : View) : Type 0 where
  pub number : n < length v.olds → (w ≡ with_own (claiming n) v) × IsAfter n (own v).claims
  pub none : length v.olds ≤ n → w ≡ with_own ending v
  pub few : total one w ≤ 65536

-- the numbers of a hand are small
pub record AreFew (v : View) : Type 0 where
  pub claims : total one v ≤ 65536
  pub releases : total releases_of v ≤ 2 ^ 48
  pub holds : total holds_of v ≤ 2 ^ 48
  pub up : v.up ≤ 2 ^ 48
  pub down : v.down ≤ 2 ^ 48

-- the hand's share of a wire's word: the old count, less its releases, plus its holds
-- a wire was looked at: the tasks that the hand didn't claim make what others may have changed
pub record Looks (v : View) (w n : ℕ) : Type 0 where
  pub least : slice_index v.counts w + total (held_on w) v + total (task_by (λ t. times w (wires_of v.olds t))) v ≤ n + total (released_on w) v + sum_below (length v.olds) (λ t. times w (wires_of v.olds t))
  pub most : n + total (released_on w) v + total one v ≤ slice_index v.counts w + total (held_on w) v + length v.olds
  -- the main hand knows it exactly where no other is out
  pub lone : v.main ≡ 1 → v.out ≡ 0 → n + total (released_on w) v ≡ slice_index v.counts w + total (held_on w) v

-- what the counts are at the close, once every hand is joined to the main one
pub record IsClosing (v : View) (closed : List ℕ) : Type 0 where
  pub long : length closed ≡ length v.counts
  pub counts : (w : ℕ) → w < length v.counts → slice_index closed w + total (released_on w) v ≡ slice_index v.counts w + total (held_on w) v
  -- the claimed tasks are those below the number of draws, each once
  pub draws : (f : ℕ → ℕ) → total (task_by f) v ≡ sum_below (min (total one v + ends v) (length v.olds)) f

-- what was posted, up and down, is the change of the overuse
pub record IsPosted (v : View) (closed : List ℕ) (up down : ℕ) : Type 0 where
  pub change : overuse v.counts + up ≡ overuse closed + down
  pub ups : up ≤ total holds_of v
  pub downs : down ≤ total releases_of v

-- ---- what a hand may do with its newest claim
-- the wire is the first of the task's old wires that isn't released
abbrev pub MayRelease : List (List ℕ) → List Claim → ℕ → ℕ → Type 0
MayRelease olds [] task wire = ⊥
MayRelease olds (c ∷ cs) task wire = (c.task ≡ task) × (slice_get (wires_of olds task) (length c.released) ≡ Some wire)

-- all the task's old wires are released, and the wire isn't held for it
abbrev pub MayHold : List (List ℕ) → List Claim → ℕ → ℕ → Type 0
MayHold olds [] task wire = ⊥
MayHold olds (c ∷ cs) task wire = (c.task ≡ task) × IsReleased olds c × (times wire c.held ≡ 0)
