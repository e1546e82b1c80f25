-- Where nobody has a wire, and no wire has a history, each costs 1 in the first round.
use Rattle.std.proofs.Common.{◌≡◌, ℕ, ◌-◌, ◌≤◌, List, Vec, length, replicate, slice_index, refl, ap, arith, ◌∙◌}
use Rattle.std.proofs.lemmas.List.{length-replicate}
use Rattle.std.specs.declared.alloc.Global.{Global}
use Rattle.ice_core.specs.Congestion.{ArePrices, price}
use Rattle.ice_words_hands.proofs.Lists.{zeros_index}

zero_at : (n w : ℕ) (xs : List ℕ) → xs ≡ replicate n 0 → slice_index xs w ≡ 0
zero_at n w xs zeros = ap (λ ys. slice_index ys w) zeros ∙ zeros_index n w

pub open_prices : (wires : ℕ) (history others : Vec ℕ Global) → wires ≤ 1048576 → history.items ≡ replicate wires 0 → others.items ≡ replicate wires 0 → ArePrices (record { round = 1; history = history; others = others })
open_prices wires history others few h o =
    let long : length history.items ≡ wires = ap length h ∙ length-replicate wires 0 in
    let as_long : length others.items ≡ wires = ap length o ∙ length-replicate wires 0 in
    record {
      first = omega arith;
      last = omega arith;
      lengths = omega (arith, long, as_long);
      wires = omega (arith, long);
      history = λ w. omega (arith, zero_at wires w history.items h);
      others = λ w. omega (arith, zero_at wires w others.items o);
    }

pub each_costs_1 : (wires : ℕ) (history others : Vec ℕ Global) → history.items ≡ replicate wires 0 → others.items ≡ replicate wires 0 → (w : ℕ) → price (record { round = 1; history = history; others = others }) w ≡ 1
each_costs_1 wires history others h o w = rw (zero_at wires w history.items h, zero_at wires w others.items o) refl
