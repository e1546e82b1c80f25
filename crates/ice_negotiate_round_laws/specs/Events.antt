-- Each step of a hand on the words of a round is the event of its name in the core.
use Rattle.std.specs.Prelude.{◌≡◌, ℕ, ◌+◌, ◌-◌, ◌≤◌, false, List, Some, length, map, take, drop, slice_get, slice_set, slice_index}
use Rattle.atomic_table.specs.Table.{State}
use Rattle.ice_base.specs.declared.number.WireNo.{WireNo}
use Rattle.ice_core.specs.declared.event.Event.{Event}
use Rattle.ice_core.specs.declared.event.Event.TheVariants.{Claim, Release, Hold}
use Rattle.ice_core.specs.Machine.{Allowed, CoreState, next}
use Rattle.ice_words.specs.declared.view.View.{View}
use Rattle.ice_words.specs.Views.{held_at, own, released_at}
use Rattle.ice_words.specs.Rule.{Draws, Holds, IsNewestReleased, MayHold, MayRelease}
use Rattle.ice_words.specs.Lawful.{IsLawful}
use Rattle.ice_words.specs.Showing.{all_parts, bare_state, core_of, worker_of}

-- the state that the words show where each part is a worker, also one that has drawn no number; postings are left aside
abbrev pub all_state : List (List ℕ) → List (List ℕ) → State ℕ View → CoreState
all_state olds news s = core_of (slice_index s.words 0) (drop 3 s.words) (map (worker_of olds news) (all_parts s.views))

-- which worker the own part of a hand is: its place among all parts
abbrev pub worker_number : List View → ℕ → ℕ
worker_number views id = length (all_parts (take id views))

-- the table before and behind a step by the hand of this seat: one word becomes n, and what the hand knows becomes w
pub record IsStep (id word n : ℕ) (w : View) (s t : State ℕ View) : Type 0 where
  pub words : t.words ≡ slice_set s.words word n
  pub views : t.views ≡ slice_set s.views id w

-- a hand of words with these tasks, which knows v and was not answered None
pub record IsGoing (olds : List (List ℕ)) (id : ℕ) (v : View) (s : State ℕ View) : Type 0 where
  pub seat : slice_get s.views id ≡ Some v
  pub tasks : v.olds ≡ olds
  pub parts : 1 ≤ length v.parts
  pub going : (own v).ended ≡ false

-- the core may do the event where the words show the one state, and comes to the other
pub record IsEvent (olds news : List (List ℕ)) (e : Event) (s t : State ℕ View) : Type 0 where
  pub allowed : Allowed (all_state olds news s) e
  pub comes : bare_state (next olds news (all_state olds news s) e) ≡ all_state olds news t

-- a claim, whether it gives a task or None
abbrev pub ClaimsAreClaims : Type 0
ClaimsAreClaims = (olds news : List (List ℕ)) (counts : List ℕ) (id : ℕ) (v w : View) (s t : State ℕ View) → Holds olds counts s → IsGoing olds id v s → IsNewestReleased olds (own v).claims → Draws v (slice_index s.words 0) w
    → IsStep id 0 (slice_index s.words 0 + 1) w s t → IsLawful olds news (own w) → IsEvent olds news (Claim (worker_number s.views id)) s t

abbrev pub ReleasesAreReleases : Type 0
ReleasesAreReleases = (olds news : List (List ℕ)) (counts : List ℕ) (id task : ℕ) (wire : WireNo) (v : View) (s t : State ℕ View) → Holds olds counts s → IsGoing olds id v s → MayRelease olds (own v).claims task wire.0
    → IsStep id (wire.0 + 3) (slice_index s.words (wire.0 + 3) - 1) (released_at (slice_index s.words (wire.0 + 3)) wire.0 v) s t → IsEvent olds news (Release (worker_number s.views id) wire) s t

abbrev pub HoldsAreHolds : Type 0
HoldsAreHolds = (olds news : List (List ℕ)) (counts : List ℕ) (id task : ℕ) (wire : WireNo) (v : View) (s t : State ℕ View) → Holds olds counts s → IsGoing olds id v s → MayHold olds (own v).claims task wire.0
    → IsStep id (wire.0 + 3) (slice_index s.words (wire.0 + 3) + 1) (held_at (slice_index s.words (wire.0 + 3)) wire.0 v) s t → IsLawful olds news (own (held_at (slice_index s.words (wire.0 + 3)) wire.0 v))
    → IsEvent olds news (Hold (worker_number s.views id) wire) s t
