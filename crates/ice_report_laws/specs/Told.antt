-- What the lines of a round tell of prices.
use Rattle.std.specs.Prelude.{◌≡◌, ℕ, ◌+◌, ◌-◌, ◌*◌, ◌<◌, ◌==◌, List, find, option_map, unwrap_or, cond, length}
use Rattle.ice_base.specs.declared.number.WireNo.{WireNo}
use Rattle.ice_graph.specs.declared.tree.Tree.{Tree}
use Rattle.ice_core.specs.declared.log.RoundLog.{RoundLog}
use Rattle.ice_core.specs.declared.prices.Prices.{Prices}
use Rattle.ice_core.specs.Congestion.{price}
use Rattle.ice_core.specs.Moves.{IsOccupancy, occupancy, holds}
use Rattle.ice_negotiate_defs.specs.Rounds.{Past, ArePricesOf}
use Rattle.ice_negotiate_defs.specs.Logs.{IsLog}

-- the number of a wire in a list of wires with numbers; 0 where it is not in the list
abbrev pub told_of : List (WireNo × ℕ) → ℕ → ℕ
told_of entries w = unwrap_or (option_map (λ (entry : WireNo × ℕ). entry.1) (find (λ (entry : WireNo × ℕ). entry.0.0 == w) entries)) 0

-- A wire costs a net with this tree, in the round of this log, what the number of the round, the wire's history in the log and the
-- number of other nets that hold the wire say, where these trees stood as the round began.
abbrev pub PricesAreTold : Type 0
PricesAreTold =
    (past : Past) (log : RoundLog) (trees : List Tree) (counts : List ℕ) (tree : Tree) (p : Prices) (w : ℕ)
    → IsLog past log → IsOccupancy counts trees → ArePricesOf past.round past.history counts tree p → w < length counts
    → price p w ≡ (1 + told_of log.history.items w) * (1 + (log.round - 1) * (occupancy trees w - cond (holds w tree) 1 0))
