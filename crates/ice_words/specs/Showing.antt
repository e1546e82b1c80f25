-- The state of the core that words and views show.
use Rattle.std.specs.Prelude.{◌≡◌, ℕ, ◌≤◌, ◌||◌, Bool, true, false, not, List, [], ◌∷◌, ◌++◌, map, filter, drop, length, slice_index}
use Rattle.std.specs.List.{AllByRecursion}
use Rattle.atomic_table.specs.Table.{State}
use Rattle.ice_core.specs.Routes.{wires_of}
use Rattle.ice_core.specs.Machine.{Worker, CoreState, IsReached}
use Rattle.ice_words.specs.declared.view.Claim.{Claim}
use Rattle.ice_words.specs.declared.view.Part.{Part}
use Rattle.ice_words.specs.declared.view.View.{View}
use Rattle.ice_words.specs.Rule.{Holds}
use Rattle.ice_words.specs.Lawful.{IsLawful}

-- what of the newest claim is still to be released, and to be held
abbrev pub left_of : List (List ℕ) → List Claim → List ℕ
left_of olds [] = []
left_of olds (c ∷ cs) = drop (length c.released) (wires_of olds c.task)

abbrev pub rest_of : List (List ℕ) → List Claim → List ℕ
rest_of news [] = []
rest_of news (c ∷ cs) = drop (length c.held) (wires_of news c.task)

-- the worker that a part shows
abbrev pub worker_of : List (List ℕ) → List (List ℕ) → Part → Worker
worker_of olds news p = record { claimed = map (λ (c : Claim). c.task) p.claims; left = left_of olds p.claims; rest = rest_of news p.claims; ended = p.ended; up = 0; down = 0 }

-- a state with these workers, where postings are left aside
abbrev pub core_of : ℕ → List ℕ → List Worker → CoreState
core_of number counts workers = record { number = number; counts = counts; up = 0; down = 0; workers = workers }

abbrev pub bare : Worker → Worker
bare u = record { claimed = u.claimed; left = u.left; rest = u.rest; ended = u.ended; up = 0; down = 0 }

abbrev pub bare_state : CoreState → CoreState
bare_state s = core_of s.number s.counts (map bare s.workers)

-- some list of allowed events leads from a start of the core to a state which is this one, postings left aside
pub record IsShown (olds news : List (List ℕ)) (opening : List ℕ) (t : CoreState) : Type 0 where
  pub state : CoreState
  pub reached : IsReached olds news opening state
  pub same : bare_state state ≡ t

-- ---- the parts that have drawn a number
abbrev pub is_nil : {A : Type 0} → List A → Bool
is_nil [] = true
is_nil (x ∷ xs) = false

abbrev pub has_drawn : Part → Bool
has_drawn p = p.ended || not (is_nil p.claims)

abbrev pub all_parts : List View → List Part
all_parts [] = []
all_parts (v ∷ views) = v.parts ++ all_parts views

abbrev pub drawn_parts : List View → List Part
drawn_parts views = filter has_drawn (all_parts views)

-- the claim number is word 0, the counts are the occupancy words, and each part that has drawn a number is a worker
abbrev pub state_of : List (List ℕ) → List (List ℕ) → State ℕ View → CoreState
state_of olds news s = core_of (slice_index s.words 0) (drop 3 s.words) (map (worker_of olds news) (drawn_parts s.views))

-- where the rule holds, every part is lawful and at most eight parts have drawn a number, the words show a state of the core
abbrev pub WordsShowCore : Type 0
WordsShowCore = (olds news : List (List ℕ)) (counts : List ℕ) (s : State ℕ View) → Holds olds counts s → AllByRecursion (λ v. AllByRecursion (IsLawful olds news) v.parts) s.views → length (drawn_parts s.views) ≤ 8 → IsShown olds news counts (state_of olds news s)
