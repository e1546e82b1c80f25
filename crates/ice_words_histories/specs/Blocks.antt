-- What a hand on histories knows, how its steps change that, and what is counted in it.
use Rattle.std.specs.Prelude.{ℕ, ◌+◌, ◌-◌, ◌/◌, true, false, List, [], ◌∷◌, ◌++◌, cond, length, nat_eq}
use Rattle.std.specs.List.{sum_by}
pub use Rattle.ice_words_hands.specs.Parts.{own_of, own_changed}
use Rattle.ice_words_hands.specs.Parts.{own_of, own_changed}
use Rattle.ice_words_hands.specs.Standing.{Standing}
use Rattle.ice_words_histories.specs.declared.view.Bump.{Bump}
use Rattle.ice_words_histories.specs.declared.view.HistoryPart.{HistoryPart}
use Rattle.ice_words_histories.specs.declared.view.HistoryView.{HistoryView}

-- how many blocks so many wires make, and a wire's block
abbrev pub blocks_of : ℕ → ℕ
blocks_of wires = (wires + 1023) / 1024

abbrev pub block_of : ℕ → ℕ
block_of w = w / 1024

-- ---- what is counted: a number for each part, added up over a view, over all views
abbrev pub total : (HistoryPart → ℕ) → HistoryView → ℕ
total k v = sum_by k v.parts

abbrev pub total_of : (HistoryPart → ℕ) → List HistoryView → ℕ
total_of k views = sum_by (total k) views

abbrev pub blocks_by : (ℕ → ℕ) → HistoryPart → ℕ
blocks_by f p = sum_by f p.blocks

abbrev pub claims_on : ℕ → HistoryPart → ℕ
claims_on b p = sum_by (λ x. cond (nat_eq b x) 1 0) p.blocks

abbrev pub claims : HistoryPart → ℕ
claims p = sum_by (λ x. 1) p.blocks

abbrev pub bumps_in : ℕ → List Bump → ℕ
bumps_in w bumps = sum_by (λ (b : Bump). cond (nat_eq b.wire w) 1 0) bumps

abbrev pub raises_in : ℕ → List Bump → ℕ
raises_in w bumps = sum_by (λ (b : Bump). cond (nat_eq b.wire w) b.by 0) bumps

-- how often a part bumps a wire, and by how much
abbrev pub bumps_on : ℕ → HistoryPart → ℕ
bumps_on w p = bumps_in w p.bumps

abbrev pub raises_on : ℕ → HistoryPart → ℕ
raises_on w p = raises_in w p.bumps

abbrev pub ends_of : HistoryPart → ℕ
ends_of p = cond p.ended 1 0

-- ---- how steps change a view
abbrev pub no_part : HistoryPart
no_part = record { blocks = []; bumps = []; ended = false }

abbrev pub claiming : ℕ → HistoryPart → HistoryPart
claiming n p = record { blocks = n ∷ p.blocks; bumps = p.bumps; ended = p.ended }

abbrev pub ending : HistoryPart → HistoryPart
ending p = record { blocks = p.blocks; bumps = p.bumps; ended = true }

abbrev pub bump_of : ℕ → ℕ → Bump
bump_of w n = record { wire = w; by = n }

abbrev pub bumping : ℕ → ℕ → HistoryPart → HistoryPart
bumping w n p = record { blocks = p.blocks; bumps = bump_of w n ∷ p.bumps; ended = p.ended }

abbrev pub with_own : (HistoryPart → HistoryPart) → HistoryView → HistoryView
with_own f v = record { histories = v.histories; main = v.main; worker = v.worker; out = v.out; splits = v.splits; parts = own_changed f v.parts }

abbrev pub first_part : List HistoryPart → HistoryPart
first_part ps = own_of no_part ps

abbrev pub own : HistoryView → HistoryPart
own v = first_part v.parts

-- ---- views that are made, cut and joined
abbrev pub first_view : List ℕ → HistoryView
first_view histories = record { histories = histories; main = 1; worker = 0; out = 0; splits = 0; parts = no_part ∷ [] }

abbrev pub worker_view : HistoryView → HistoryView
worker_view v = record { histories = v.histories; main = 0; worker = 1; out = 0; splits = 0; parts = no_part ∷ [] }

abbrev pub with_worker : HistoryView → HistoryView
with_worker v = record { histories = v.histories; main = v.main; worker = v.worker; out = v.out + 1; splits = v.splits + 1; parts = v.parts }

abbrev pub with_parts : HistoryView → HistoryView → HistoryView
with_parts v u = record { histories = v.histories; main = v.main; worker = v.worker; out = v.out - 1; splits = v.splits; parts = v.parts ++ u.parts }

abbrev pub spent_view : HistoryView
spent_view = record { histories = []; main = 0; worker = 0; out = 0; splits = 0; parts = [] }

abbrev pub standing_of : HistoryView → Standing
standing_of v = record { main = v.main; worker = v.worker; out = v.out; splits = v.splits; parts = length v.parts }
