-- What a hand knows, how its steps change that, and what is counted in it.
use Rattle.std.specs.Prelude.{ℕ, ◌+◌, ◌-◌, true, false, List, [], ◌∷◌, ◌++◌, cond, length, min}
use Rattle.std.specs.List.{sum_by}
use Rattle.ice_core.specs.Routes.{times}
pub use Rattle.ice_words_hands.specs.Parts.{own_of, own_changed}
use Rattle.ice_words_hands.specs.Parts.{own_of, own_changed}
use Rattle.ice_words_hands.specs.Standing.{Standing}
use Rattle.ice_words.specs.declared.view.Claim.{Claim}
use Rattle.ice_words.specs.declared.view.Part.{Part}
use Rattle.ice_words.specs.declared.view.View.{View}

-- ---- what is counted
-- a number for each claim, added up over the claims of a part, of a view, of all views
abbrev pub total_in : (Claim → ℕ) → Part → ℕ
total_in g p = sum_by g p.claims

abbrev pub total : (Claim → ℕ) → View → ℕ
total g v = sum_by (total_in g) v.parts

abbrev pub total_of : (Claim → ℕ) → List View → ℕ
total_of g views = sum_by (total g) views

abbrev pub one : Claim → ℕ
one c = 1

abbrev pub task_by : (ℕ → ℕ) → Claim → ℕ
task_by f c = f c.task

abbrev pub released_on : ℕ → Claim → ℕ
released_on w c = times w c.released

abbrev pub held_on : ℕ → Claim → ℕ
held_on w c = times w c.held

abbrev pub releases_of : Claim → ℕ
releases_of c = length c.released

abbrev pub holds_of : Claim → ℕ
holds_of c = length c.held

abbrev pub ends_of : Part → ℕ
ends_of p = cond p.ended 1 0

-- how many parts were answered None
abbrev pub ends : View → ℕ
ends v = sum_by ends_of v.parts

-- ---- how steps change a view
abbrev pub claim_of : ℕ → Claim
claim_of n = record { task = n; released = []; held = [] }

abbrev pub no_part : Part
no_part = record { claims = []; ended = false }

abbrev pub newest_changed : (Claim → Claim) → List Claim → List Claim
newest_changed f [] = []
newest_changed f (c ∷ cs) = f c ∷ cs

abbrev pub with_released : ℕ → Claim → Claim
with_released w c = record { task = c.task; released = c.released ++ w ∷ []; held = c.held }

abbrev pub with_held : ℕ → Claim → Claim
with_held w c = record { task = c.task; released = c.released; held = c.held ++ w ∷ [] }

abbrev pub claiming : ℕ → Part → Part
claiming n p = record { claims = claim_of n ∷ p.claims; ended = p.ended }

abbrev pub ending : Part → Part
ending p = record { claims = p.claims; ended = true }

abbrev pub releasing : ℕ → Part → Part
releasing w p = record { claims = newest_changed (with_released w) p.claims; ended = p.ended }

abbrev pub holding : ℕ → Part → Part
holding w p = record { claims = newest_changed (with_held w) p.claims; ended = p.ended }

-- a hand's own part is its first
abbrev pub with_own : (Part → Part) → View → View
with_own f v = record { olds = v.olds; counts = v.counts; main = v.main; worker = v.worker; out = v.out; splits = v.splits; up = v.up; down = v.down; parts = own_changed f v.parts }

-- the two numbers change
abbrev pub with_numbers : ℕ → ℕ → View → View
with_numbers up down v = record { olds = v.olds; counts = v.counts; main = v.main; worker = v.worker; out = v.out; splits = v.splits; up = up; down = down; parts = v.parts }

-- a release, a hold of a wire whose fetch gave n
abbrev pub released_at : ℕ → ℕ → View → View
released_at n w v = with_numbers v.up (v.down + min 1 (n - 1)) (with_own (releasing w) v)

abbrev pub held_at : ℕ → ℕ → View → View
held_at n w v = with_numbers (v.up + min 1 n) v.down (with_own (holding w) v)

-- one number, or both, are posted
abbrev pub posted_up : View → View
posted_up v = with_numbers 0 v.down v

abbrev pub posted_down : View → View
posted_down v = with_numbers v.up 0 v

abbrev pub posted : View → View
posted v = with_numbers 0 0 v

-- the own part, and its claims
abbrev pub first_part : List Part → Part
first_part ps = own_of no_part ps

abbrev pub own : View → Part
own v = first_part v.parts

-- ---- views that are made, cut and joined
abbrev pub first_view : List (List ℕ) → List ℕ → View
first_view olds counts = record { olds = olds; counts = counts; main = 1; worker = 0; out = 0; splits = 0; up = 0; down = 0; parts = no_part ∷ [] }

abbrev pub worker_view : View → View
worker_view v = record { olds = v.olds; counts = v.counts; main = 0; worker = 1; out = 0; splits = 0; up = 0; down = 0; parts = no_part ∷ [] }

abbrev pub with_worker : View → View
with_worker v = record { olds = v.olds; counts = v.counts; main = v.main; worker = v.worker; out = v.out + 1; splits = v.splits + 1; up = v.up; down = v.down; parts = v.parts }

abbrev pub with_parts : View → View → View
with_parts v u = record { olds = v.olds; counts = v.counts; main = v.main; worker = v.worker; out = v.out - 1; splits = v.splits; up = v.up; down = v.down; parts = v.parts ++ u.parts }

abbrev pub spent_view : View
spent_view = record { olds = []; counts = []; main = 0; worker = 0; out = 0; splits = 0; up = 0; down = 0; parts = [] }

abbrev pub standing_of : View → Standing
standing_of v = record { main = v.main; worker = v.worker; out = v.out; splits = v.splits; parts = length v.parts }
