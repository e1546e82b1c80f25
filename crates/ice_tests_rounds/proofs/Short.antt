-- The two rounds of two nets over one short wire can be played.
use Rattle.std.proofs.Common.{◌≡◌, ℕ, zero, suc, ◌≤◌, ◌<◌, List, [], ◌∷◌, length, slice_index, sym, ap, ◌∙◌, subst, arith, inl, inr}
use Rattle.std.proofs.lemmas.List.{get_or_past}
use Rattle.std.proofs.lemmas.List.Elements.{All-from_recursion}
use Rattle.std.specs.List.{AllByRecursion}
use Rattle.std.proofs.lemmas.Bool.{cases_lt}
use Rattle.ice_base.specs.declared.number.WireNo.{WireNo}
use Rattle.ice_graph.specs.Network.{Network}
use Rattle.ice_core.specs.declared.round_prices.RoundPrices.{RoundPrices}
use Rattle.ice_core.specs.declared.task.Task.{Task}
use Rattle.ice_core.specs.Routes.{IsOpening, numbers, old_wires, sum_below, times, wires_of}
use Rattle.ice_core.proofs.Sums.{at_other, times_cons}
use Rattle.ice_worker.specs.Tasks.{IsTaskOf, KeepsBounds, ArePlayable}

low_at : (n : ℕ) (xs : List ℕ) → AllByRecursion (λ x. x ≤ n) xs → (w : ℕ) → slice_index xs w ≤ n
low_at n [] each w = omega arith
low_at n (x ∷ xs) each zero = each.0
low_at n (x ∷ xs) each (suc w) = low_at n xs each.1 w

-- small histories and counts keep the prices of each task within their bounds
bounds : (r : RoundPrices) (task : Task) → 1 ≤ r.round → r.round ≤ 64 → length r.history.items ≡ 7 → length r.counts.items ≡ 7 → ((w : ℕ) → slice_index r.history.items w ≤ 1) → ((w : ℕ) → slice_index r.counts.items w ≤ 2) → KeepsBounds r task
bounds r task first last histories counts history low p are = record {
  first = subst (λ n. 1 ≤ n) (sym are.number) first;
  last = subst (λ n. n ≤ 64) (sym are.number) last;
  lengths = omega (arith, are.others.long, counts, histories, ap length are.histories);
  wires = omega (arith, histories, ap length are.histories);
  history = λ w. omega (arith, history w, ap (λ xs. slice_index xs w) are.histories);
  others = λ w. elim (cases_lt w (length r.counts.items)) [
    | inl lt ↦ omega (arith, are.others.each w lt, low w)
    | inr le ↦ omega (arith, get_or_past p.others.items w 0 (omega (arith, le, are.others.long)))
  ];
}

-- ---- the first round: nobody holds a wire
first_opening : IsOpening ([] ∷ [] ∷ []) (0 ∷ 0 ∷ 0 ∷ 0 ∷ 0 ∷ 0 ∷ 0 ∷ [])
first_opening = record {
  tasks = omega arith;
  wires = omega arith;
  within = within;
  once = once;
  few = λ w lt. (let le = low_at 0 (0 ∷ 0 ∷ 0 ∷ 0 ∷ 0 ∷ 0 ∷ 0 ∷ []) (omega arith, (omega arith, (omega arith, (omega arith, (omega arith, (omega arith, (omega arith, tt))))))) w in omega arith);
  counted = λ w lt. omega arith;
}
  where
    within : (t : ℕ) → AllByRecursion (λ w. w < 7) (wires_of ([] ∷ [] ∷ []) t)
    within zero = tt
    within (suc zero) = tt
    within (suc (suc t)) = tt

    once : (t w : ℕ) → times w (wires_of ([] ∷ [] ∷ []) t) ≤ 1
    once zero w = omega arith
    once (suc zero) w = omega arith
    once (suc (suc t)) w = omega arith

-- ---- the second round: the net that moves holds the wires 0, 2 and 5, the other one 1, 2 and 6, and so many others wire 3
second_opening : (third : ℕ) → third ≤ 2 → IsOpening ((0 ∷ 2 ∷ 5 ∷ []) ∷ []) (1 ∷ 1 ∷ 2 ∷ third ∷ 0 ∷ 1 ∷ 1 ∷ [])
second_opening third le = record {
  tasks = omega arith;
  wires = omega arith;
  within = within;
  once = once;
  few = λ w lt. (let low = low_at 2 (1 ∷ 1 ∷ 2 ∷ third ∷ 0 ∷ 1 ∷ 1 ∷ []) (omega arith, (omega arith, (omega arith, (le, (omega arith, (omega arith, (omega arith, tt))))))) w in omega (arith, low));
  counted = counted;
}
  where
    within : (t : ℕ) → AllByRecursion (λ w. w < 7) (wires_of ((0 ∷ 2 ∷ 5 ∷ []) ∷ []) t)
    within zero = (omega arith, (omega arith, (omega arith, tt)))
    within (suc t) = tt

    beyond : (w : ℕ) → times (suc (suc (suc (suc (suc (suc w)))))) (0 ∷ 2 ∷ 5 ∷ []) ≡ 0
    beyond w =
        let v : ℕ = suc (suc (suc (suc (suc (suc w))))) in
        omega (arith, times_cons v 0 (2 ∷ 5 ∷ []), times_cons v 2 (5 ∷ []), times_cons v 5 [], at_other 0 v (λ e. omega (arith, e)), at_other 2 v (λ e. omega (arith, e)), at_other 5 v (λ e. omega (arith, e)))

    held : (w : ℕ) → times w (0 ∷ 2 ∷ 5 ∷ []) ≤ 1
    held zero = omega arith
    held (suc zero) = omega arith
    held (suc (suc zero)) = omega arith
    held (suc (suc (suc zero))) = omega arith
    held (suc (suc (suc (suc zero)))) = omega arith
    held (suc (suc (suc (suc (suc zero))))) = omega arith
    held (suc (suc (suc (suc (suc (suc w)))))) = omega (arith, beyond w)

    once : (t w : ℕ) → times w (wires_of ((0 ∷ 2 ∷ 5 ∷ []) ∷ []) t) ≤ 1
    once zero w = held w
    once (suc t) w = omega arith

    counted : (w : ℕ) → w < 7 → sum_below 1 (λ t. times w (wires_of ((0 ∷ 2 ∷ 5 ∷ []) ∷ []) t)) ≤ slice_index (1 ∷ 1 ∷ 2 ∷ third ∷ 0 ∷ 1 ∷ 1 ∷ []) w
    counted zero lt = omega arith
    counted (suc zero) lt = omega arith
    counted (suc (suc zero)) lt = omega arith
    counted (suc (suc (suc zero))) lt = omega arith
    counted (suc (suc (suc (suc zero)))) lt = omega arith
    counted (suc (suc (suc (suc (suc zero))))) lt = omega arith
    counted (suc (suc (suc (suc (suc (suc w)))))) lt = omega (arith, beyond w)

pub first_ready : (graph : Network) (r : RoundPrices) (t u : Task) → graph.wires ≡ 7 → r.round ≡ 1 → r.history.items ≡ 0 ∷ 0 ∷ 0 ∷ 0 ∷ 0 ∷ 0 ∷ 0 ∷ [] → r.counts.items ≡ 0 ∷ 0 ∷ 0 ∷ 0 ∷ 0 ∷ 0 ∷ 0 ∷ []
    → IsTaskOf graph t → IsTaskOf graph u → t.old.items ≡ [] → u.old.items ≡ [] → ArePlayable graph r (t ∷ u ∷ [])
first_ready graph r t u wires round history counts t_of u_of t_old u_old =
    let none : AllByRecursion (λ x. x ≤ 0) (0 ∷ 0 ∷ 0 ∷ 0 ∷ 0 ∷ 0 ∷ 0 ∷ []) = (omega arith, (omega arith, (omega arith, (omega arith, (omega arith, (omega arith, (omega arith, tt))))))) in
    let past : (w : ℕ) → slice_index r.history.items w ≤ 1 = λ w. omega (arith, ap (λ xs. slice_index xs w) history, low_at 0 (0 ∷ 0 ∷ 0 ∷ 0 ∷ 0 ∷ 0 ∷ 0 ∷ []) none w) in
    let low : (w : ℕ) → slice_index r.counts.items w ≤ 2 = λ w. omega (arith, ap (λ xs. slice_index xs w) counts, low_at 0 (0 ∷ 0 ∷ 0 ∷ 0 ∷ 0 ∷ 0 ∷ 0 ∷ []) none w) in
    let long : length r.history.items ≡ 7 = ap length history in
    let many : length r.counts.items ≡ 7 = ap length counts in
    let olds : old_wires (t ∷ u ∷ []) ≡ [] ∷ [] ∷ [] = λ k. numbers (t_old k) ∷ numbers (u_old k) ∷ [] in
    record {
      histories = long ∙ sym wires;
      counts = many ∙ sym wires;
      opening = subst (λ os. IsOpening os r.counts.items) (sym olds) (subst (IsOpening ([] ∷ [] ∷ [])) (sym counts) first_opening);
      wires = All-from_recursion (IsTaskOf graph) (t ∷ u ∷ []) (t_of, (u_of, tt));
      bounded = All-from_recursion (KeepsBounds r) (t ∷ u ∷ []) (bounds r t (omega (arith, round)) (omega (arith, round)) long many past low, (bounds r u (omega (arith, round)) (omega (arith, round)) long many past low, tt));
    }

-- the wire of this number
abbrev pub wire : ℕ → WireNo
wire n = record { 0 = n }

pub second_ready : (graph : Network) (third : ℕ) (r : RoundPrices) (t : Task) → third ≤ 2 → graph.wires ≡ 7 → r.round ≡ 2 → r.history.items ≡ 0 ∷ 0 ∷ 1 ∷ 0 ∷ 0 ∷ 0 ∷ 0 ∷ [] → r.counts.items ≡ 1 ∷ 1 ∷ 2 ∷ third ∷ 0 ∷ 1 ∷ 1 ∷ []
    → IsTaskOf graph t → t.old.items ≡ wire 0 ∷ wire 2 ∷ wire 5 ∷ [] → ArePlayable graph r (t ∷ [])
second_ready graph third r t le wires round history counts t_of t_old =
    let past : (w : ℕ) → slice_index r.history.items w ≤ 1 = λ w. omega (arith, ap (λ xs. slice_index xs w) history, low_at 1 (0 ∷ 0 ∷ 1 ∷ 0 ∷ 0 ∷ 0 ∷ 0 ∷ []) (omega arith, (omega arith, (omega arith, (omega arith, (omega arith, (omega arith, (omega arith, tt))))))) w) in
    let low : (w : ℕ) → slice_index r.counts.items w ≤ 2 = λ w. omega (arith, ap (λ xs. slice_index xs w) counts, low_at 2 (1 ∷ 1 ∷ 2 ∷ third ∷ 0 ∷ 1 ∷ 1 ∷ []) (omega arith, (omega arith, (omega arith, (le, (omega arith, (omega arith, (omega arith, tt))))))) w) in
    let long : length r.history.items ≡ 7 = ap length history in
    let many : length r.counts.items ≡ 7 = ap length counts in
    let first : numbers t.old.items ≡ 0 ∷ 2 ∷ 5 ∷ [] = ap numbers t_old in
    let olds : old_wires (t ∷ []) ≡ (0 ∷ 2 ∷ 5 ∷ []) ∷ [] = λ k. first k ∷ [] in
    record {
      histories = long ∙ sym wires;
      counts = many ∙ sym wires;
      opening = subst (λ os. IsOpening os r.counts.items) (sym olds) (subst (IsOpening ((0 ∷ 2 ∷ 5 ∷ []) ∷ [])) (sym counts) (second_opening third le));
      wires = All-from_recursion (IsTaskOf graph) (t ∷ []) (t_of, tt);
      bounded = All-from_recursion (KeepsBounds r) (t ∷ []) (bounds r t (omega (arith, round)) (omega (arith, round)) long many past low, tt);
    }
