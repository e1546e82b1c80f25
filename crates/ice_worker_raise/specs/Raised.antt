-- The bumps of blocks, by the counts.
use Rattle.std.specs.Prelude.{◌≡◌, ℕ, zero, suc, ◌+◌, ◌-◌, ◌*◌, ◌<◌, true, false, List, [], ◌∷◌, min, nat_lt, if◌then◌else◌, slice_index}
use Rattle.std.specs.List.{AllByRecursion}
use Rattle.ice_words_histories.specs.declared.view.Bump.{Bump}
use Rattle.ice_words_histories.specs.declared.view.HistoryPart.{HistoryPart}
use Rattle.ice_words_histories.specs.declared.view.HistoryView.{HistoryView}
use Rattle.ice_words_histories.specs.Blocks.{bump_of, no_part}
use Rattle.ice_words_histories.specs.Rule.{IsAfter}

-- a wire with a count above 1 is bumped by its count less 1
abbrev pub with_wire : List ℕ → ℕ → List Bump → List Bump
with_wire counts w bumps = if nat_lt 1 (slice_index counts w) then bump_of w (slice_index counts w - 1) ∷ bumps else bumps

-- so many wires from the first on, the newest bump first
abbrev pub with_wires : List ℕ → ℕ → ℕ → List Bump → List Bump
with_wires counts first zero bumps = bumps
with_wires counts first (suc k) bumps = with_wire counts (first + k) (with_wires counts first k bumps)

-- the wires of a block
abbrev pub wires_in : ℕ → ℕ → ℕ
wires_in wires b = min 1024 (wires - b * 1024)

abbrev pub with_block : List ℕ → ℕ → ℕ → List Bump → List Bump
with_block counts wires b bumps = with_wires counts (b * 1024) (wires_in wires b) bumps

-- the bumps of these blocks, the newest first
abbrev pub bumps_of : List ℕ → ℕ → List ℕ → List Bump
bumps_of counts wires [] = []
bumps_of counts wires (b ∷ blocks) = with_block counts wires b (bumps_of counts wires blocks)

-- a part that claimed these blocks and raised them whole
abbrev pub going_part : List ℕ → ℕ → List ℕ → HistoryPart
going_part counts wires blocks = record { blocks = blocks; bumps = bumps_of counts wires blocks; ended = false }

abbrev pub raised_part : List ℕ → ℕ → List ℕ → HistoryPart
raised_part counts wires blocks = record { blocks = blocks; bumps = bumps_of counts wires blocks; ended = true }

-- ---- how a wire, some wires, a block change a part
abbrev pub wiring : List ℕ → ℕ → HistoryPart → HistoryPart
wiring counts w p = record { blocks = p.blocks; bumps = with_wire counts w p.bumps; ended = p.ended }

abbrev pub wirings : List ℕ → ℕ → ℕ → HistoryPart → HistoryPart
wirings counts first k p = record { blocks = p.blocks; bumps = with_wires counts first k p.bumps; ended = p.ended }

-- all bumped wires are below n
abbrev pub AreBelow : ℕ → List Bump → Type 0
AreBelow n bumps = AllByRecursion (λ (b : Bump). b.wire < n) bumps

-- the numbers of the blocks fall from the newest on
abbrev pub Falls : List ℕ → Type 0
Falls [] = Unit {0}
Falls (b ∷ blocks) = IsAfter b blocks × Falls blocks

-- one more than the newest
abbrev pub next_of : List ℕ → ℕ
next_of [] = 0
next_of (b ∷ blocks) = b + 1

-- the hand has claimed nothing and was never answered None
abbrev pub AreFresh : List HistoryPart → Type 0
AreFresh [] = ⊥
AreFresh (p ∷ ps) = p ≡ no_part

abbrev pub IsFresh : HistoryView → Type 0
IsFresh v = AreFresh v.parts
