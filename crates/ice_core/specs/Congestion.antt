-- What a wire costs a net in a round, and how the history of congestion rises.
use Rattle.std.specs.Prelude.{◌≡◌, ℕ, ◌+◌, ◌-◌, ◌*◌, ◌≤◌, List, [], ◌∷◌, length, slice_index}
use Rattle.ice_core.specs.declared.prices.Prices.{Prices}

-- what the wire costs: the more often it was overused, and the more other nets hold it, the dearer it is, and the others weigh more from round to round
abbrev pub price : Prices → ℕ → ℕ
price p w = (1 + slice_index p.history.items w) * (1 + (p.round - 1) * slice_index p.others.items w)

-- one history and one number of others for each wire, and each within its bounds
pub record ArePrices (p : Prices) : Type 0 where
  pub first : 1 ≤ p.round
  pub last : p.round ≤ 64
  pub lengths : length p.others.items ≡ length p.history.items
  pub wires : length p.history.items ≤ 1048576
  pub history : (w : ℕ) → slice_index p.history.items w ≤ 4128705
  pub others : (w : ℕ) → slice_index p.others.items w ≤ 65535

-- each history rises by the number of nets beyond one
abbrev pub next_history : List ℕ → List ℕ → List ℕ
next_history [] counts = []
next_history (h ∷ history) [] = h ∷ history
next_history (h ∷ history) (c ∷ counts) = (h + (c - 1)) ∷ next_history history counts
