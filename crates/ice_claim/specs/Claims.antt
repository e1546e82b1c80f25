-- What a pass knows, how its steps change that, and what is counted in it.
use Rattle.std.specs.Prelude.{ℕ, ◌+◌, ◌-◌, ◌&&◌, Bool, true, false, List, [], ◌∷◌, ◌++◌, cond, count_by, length, nat_eq}
use Rattle.std.specs.List.{sum_by}
use Rattle.ice_words_hands.specs.Parts.{own_of, own_changed}
use Rattle.ice_words_hands.specs.Standing.{Standing}
use Rattle.ice_claim.specs.declared.view.Pair.{Pair}
use Rattle.ice_claim.specs.declared.view.ClaimPart.{ClaimPart}
use Rattle.ice_claim.specs.declared.view.ClaimView.{ClaimView}

-- ---- what is counted: a number for each part, added up over a view, over all views
abbrev pub total : (ClaimPart → ℕ) → ClaimView → ℕ
total k v = sum_by k v.parts

abbrev pub total_of : (ClaimPart → ℕ) → List ClaimView → ℕ
total_of k views = sum_by (total k) views

abbrev pub nets_by : (ℕ → ℕ) → ClaimPart → ℕ
nets_by f p = sum_by f p.nets

-- how often a net is claimed, and how many nets are
abbrev pub claims_on : ℕ → ClaimPart → ℕ
claims_on n p = sum_by (λ x. cond (nat_eq n x) 1 0) p.nets

abbrev pub claims : ClaimPart → ℕ
claims p = sum_by (λ x. 1) p.nets

abbrev pub ends_of : ClaimPart → ℕ
ends_of p = cond p.ended 1 0

abbrev pub pair_of : ℕ → ℕ → Pair
pair_of n w = record { net = n; wire = w }

abbrev pub is_on : ℕ → Pair → Bool
is_on w q = nat_eq q.wire w

abbrev pub is_pair : ℕ → ℕ → Pair → Bool
is_pair n w q = nat_eq q.net n && nat_eq q.wire w

-- how often a part has a wire, and has it for a net
abbrev pub takes_on : ℕ → ClaimPart → ℕ
takes_on w p = count_by (is_on w) p.taken

abbrev pub takes_pair : ℕ → ℕ → ClaimPart → ℕ
takes_pair n w p = count_by (is_pair n w) p.taken

-- how often a net didn't get a wire
abbrev pub losses_pair : ℕ → ℕ → ClaimPart → ℕ
losses_pair n w p = count_by (is_pair n w) p.lost

-- ---- how steps change a view
abbrev pub no_part : ClaimPart
no_part = record { nets = []; taken = []; lost = []; ended = false }

abbrev pub claiming : ℕ → ClaimPart → ClaimPart
claiming n p = record { nets = n ∷ p.nets; taken = p.taken; lost = p.lost; ended = p.ended }

abbrev pub ending : ClaimPart → ClaimPart
ending p = record { nets = p.nets; taken = p.taken; lost = p.lost; ended = true }

abbrev pub taking : ℕ → ℕ → ClaimPart → ClaimPart
taking n w p = record { nets = p.nets; taken = pair_of n w ∷ p.taken; lost = p.lost; ended = p.ended }

abbrev pub losing : ℕ → ℕ → ClaimPart → ClaimPart
losing n w p = record { nets = p.nets; taken = p.taken; lost = pair_of n w ∷ p.lost; ended = p.ended }

-- the pairs without the newest of these
abbrev pub without : ℕ → ℕ → List Pair → List Pair
without n w [] = []
without n w (q ∷ qs) = cond (is_pair n w q) qs (q ∷ without n w qs)

abbrev pub giving : ℕ → ℕ → ClaimPart → ClaimPart
giving n w p = record { nets = p.nets; taken = without n w p.taken; lost = p.lost; ended = p.ended }

abbrev pub own : ClaimView → ClaimPart
own v = own_of no_part v.parts

abbrev pub with_own : (ClaimPart → ClaimPart) → ClaimView → ClaimView
with_own f v = record { lists = v.lists; main = v.main; worker = v.worker; out = v.out; splits = v.splits; parts = own_changed f v.parts }

-- ---- views that are made, cut and joined
abbrev pub first_view : List (List ℕ) → ClaimView
first_view lists = record { lists = lists; main = 1; worker = 0; out = 0; splits = 0; parts = no_part ∷ [] }

abbrev pub worker_view : ClaimView → ClaimView
worker_view v = record { lists = v.lists; main = 0; worker = 1; out = 0; splits = 0; parts = no_part ∷ [] }

abbrev pub with_worker : ClaimView → ClaimView
with_worker v = record { lists = v.lists; main = v.main; worker = v.worker; out = v.out + 1; splits = v.splits + 1; parts = v.parts }

abbrev pub with_parts : ClaimView → ClaimView → ClaimView
with_parts v u = record { lists = v.lists; main = v.main; worker = v.worker; out = v.out - 1; splits = v.splits; parts = v.parts ++ u.parts }

abbrev pub spent_view : ClaimView
spent_view = record { lists = []; main = 0; worker = 0; out = 0; splits = 0; parts = [] }

abbrev pub standing_of : ClaimView → Standing
standing_of v = record { main = v.main; worker = v.worker; out = v.out; splits = v.splits; parts = length v.parts }
