-- The histories at the close, where each hand raised its blocks whole.
use Rattle.std.specs.Prelude.{◌≡◌, ℕ, ◌+◌, ◌-◌, ◌≤◌, ◌<◌, ◌⊎◌, List, length, slice_index}
use Rattle.std.specs.List.{AllByRecursion}
use Rattle.ice_words_histories.specs.declared.view.HistoryPart.{HistoryPart}
use Rattle.ice_words_histories.specs.declared.view.HistoryView.{HistoryView}
use Rattle.ice_words_histories.specs.Blocks.{total, ends_of, no_part}
use Rattle.ice_words_histories.specs.Rule.{IsClosing}
use Rattle.ice_worker_raise.specs.Raised.{raised_part}

-- the part's hand did nothing, or raised its blocks by the counts until none was left
abbrev pub HasRaised : List ℕ → ℕ → HistoryPart → Type 0
HasRaised counts wires p = (p ≡ no_part) ⊎ ((blocks : List ℕ) × (p ≡ raised_part counts wires blocks))

-- where some hand was answered None, each history is the old one and the overuse of the wire's count
abbrev pub RaisingLaw : Type 0
RaisingLaw = (v : HistoryView) (closed counts : List ℕ) → IsClosing v closed → 1 ≤ total ends_of v → AllByRecursion (HasRaised counts (length v.histories)) v.parts
    → (w : ℕ) → w < length v.histories → slice_index closed w ≡ slice_index v.histories w + (slice_index counts w - 1)
