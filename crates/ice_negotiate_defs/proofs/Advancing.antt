-- Nets move one after the other.
use Rattle.std.proofs.Common.{◌≡◌, ℕ, zero, suc, ◌+◌, ◌≤◌, Bool, true, false, cond, List, [], ◌∷◌, Some, length, slice_get, slice_index, refl, ap, subst, arith, inl, inr}
use Rattle.ice_graph.specs.declared.tree.Tree.{Tree}
use Rattle.ice_graph.specs.Network.{Network}
use Rattle.ice_core.specs.declared.prices.Prices.{Prices}
use Rattle.ice_core.specs.Congestion.{ArePrices}
use Rattle.ice_core.specs.Moves.{holds, occupancy, IsOccupancy}
use Rattle.ice_negotiate_defs.specs.Rounds.{ArePricesOf, AreBounded, AreFew}
use Rattle.std.proofs.lemmas.List.Sums.{count_by-le-length, sum_by-cons}
use Rattle.std.proofs.lemmas.Bool.{cases_lt}

-- beyond its end a list has zeros
pub beyond_end : (xs : List ℕ) (w : ℕ) → length xs ≤ w → slice_index xs w ≡ 0
beyond_end [] w le = refl
beyond_end (x ∷ xs) zero le = absurd (omega arith)
beyond_end (x ∷ xs) (suc w) le = beyond_end xs w (omega arith)

-- with the net's own route left out they are prices
pub left_prices : (graph : Network) (round : ℕ) (history counts : List ℕ) (tree : Tree) (p : Prices) → AreBounded graph round history counts → AreFew counts tree → ArePricesOf round history counts tree p → ArePrices p
left_prices graph round history counts tree p b few h =
    let number = h.number in
    let first = b.first in
    let last = b.last in
    let wires = b.wires in
    let long = b.long in
    let counted = b.counted in
    let others_long = h.long in
    let history_long : length p.history.items ≡ length history = ap length h.histories in
    record {
      first = omega arith;
      last = omega arith;
      lengths = omega arith;
      wires = omega arith;
      history = λ w. (let e : slice_index p.history.items w ≡ slice_index history w = ap (λ xs. slice_index xs w) h.histories in let le = b.low w in omega arith);
      others = λ w. elim (cases_lt w (length counts)) [
        | inl lt ↦ (let e = h.others w lt in let le = few w lt in omega arith)
        | inr le ↦ (let e = beyond_end p.others.items w (omega arith) in omega arith)
      ];
    }

at_most_one : (b : Bool) → cond b 1 0 ≤ 1
at_most_one true = omega arith
at_most_one false = omega arith

-- where one tree of the list is known, the others are at most all but one
occupancy_others : (trees : List Tree) (n : ℕ) (tree : Tree) (w : ℕ) → slice_get trees n ≡ Some tree → occupancy trees w + 1 ≤ length trees + cond (holds w tree) 1 0
occupancy_others [] n tree w at = absurd (cc)
occupancy_others (t ∷ trees) zero tree w at =
    let same : t ≡ tree = (cc) in
    let le = count_by-le-length (holds w) trees in
    let split : occupancy (t ∷ trees) w ≡ cond (holds w t) 1 0 + occupancy trees w = sum_by-cons (λ (y : Tree). cond (holds w y) 1 0) t trees in
    let here : occupancy (t ∷ trees) w + 1 ≤ length (t ∷ trees) + cond (holds w t) 1 0 = omega arith in
    subst (λ x. occupancy (t ∷ trees) w + 1 ≤ length (t ∷ trees) + cond (holds w x) 1 0) same here
occupancy_others (t ∷ trees) (suc n) tree w at =
    let rest = occupancy_others trees n tree w at in
    let most = at_most_one (holds w t) in
    let split : occupancy (t ∷ trees) w ≡ cond (holds w t) 1 0 + occupancy trees w = sum_by-cons (λ (y : Tree). cond (holds w y) 1 0) t trees in
    omega arith

pub few_others : (counts : List ℕ) (trees : List Tree) (n : ℕ) (tree : Tree) → IsOccupancy counts trees → length trees ≤ 65536 → slice_get trees n ≡ Some tree → AreFew counts tree
few_others counts trees n tree o few at = λ w lt. (let e = o.each w lt in let le = occupancy_others trees n tree w at in omega arith)
