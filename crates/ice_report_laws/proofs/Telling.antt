-- The histories that a log tells.
use Rattle.std.proofs.Common.{◌≡◌, ℕ, zero, suc, ◌+◌, ◌-◌, ◌*◌, ◌<◌, ◌==◌, Bool, true, false, cond, List, [], ◌∷◌, Option, None, Some, nat_lt, slice_index, option_map, unwrap_or, refl, sym, ap, ◌∙◌, arith}
use Rattle.std.specs.List.{find}
use Rattle.std.proofs.lemmas.Bool.Decides.{nat_tests}
use Rattle.ice_base.specs.declared.number.WireNo.{WireNo}
use Rattle.ice_core.specs.Moves.{holds}
use Rattle.ice_negotiate_defs.specs.Logs.{beyond}
use Rattle.ice_report_laws.specs.Told.{told_of, PricesAreTold}

-- what is told by what is found
abbrev by_found : Option (WireNo × ℕ) → ℕ
by_found found = unwrap_or (option_map (λ (entry : WireNo × ℕ). entry.1) found) 0

same_wire : (k w : ℕ) → k ≡ w → (k == w) ≡ true
same_wire k w e = grind (arith, nat_tests)

apart : (k w : ℕ) → w < k → (k == w) ≡ false
apart k w lt = grind (arith, nat_tests)

behind : (k w : ℕ) → k < w → (k == w) ≡ false
behind k w lt = grind (arith, nat_tests)

none : (n : ℕ) → nat_lt 0 n ≡ false → 0 ≡ n
none n e = grind (arith, nat_tests)

-- no wire before the first is found
absent : (k : ℕ) (ns : List ℕ) (w : ℕ) → w < k → find (λ (entry : WireNo × ℕ). entry.0.0 == w) (beyond 0 k ns) ≡ None
absent k [] w lt = refl
absent k (n ∷ ns) w lt = by (nat_lt 0 n) (absent (k + 1) ns w (omega arith))
  where
    rest : List (WireNo × ℕ)
    rest = beyond 0 (k + 1) ns

    by : (b : Bool) → find (λ (entry : WireNo × ℕ). entry.0.0 == w) rest ≡ None
        → find (λ (entry : WireNo × ℕ). entry.0.0 == w) (cond b ((record { 0 = k }, n) ∷ rest) rest) ≡ None
    by true later = ap (λ t. cond t (Some (record { 0 = k }, n)) (find (λ (entry : WireNo × ℕ). entry.0.0 == w) rest)) (apart k w lt) ∙ later
    by false later = later

-- the number of the i-th wire from wire k on
told_at : (k : ℕ) (ns : List ℕ) (i w : ℕ) → w ≡ k + i → told_of (beyond 0 k ns) w ≡ slice_index ns i
told_at k [] i w e = refl
told_at k (n ∷ ns) zero w e = by (nat_lt 0 n) refl (absent (k + 1) ns w (omega arith))
  where
    rest : List (WireNo × ℕ)
    rest = beyond 0 (k + 1) ns

    here : k ≡ w
    here = omega arith

    by : (b : Bool) → nat_lt 0 n ≡ b → find (λ (entry : WireNo × ℕ). entry.0.0 == w) rest ≡ None → told_of (cond b ((record { 0 = k }, n) ∷ rest) rest) w ≡ n
    by true is later = ap (λ t. by_found (cond t (Some (record { 0 = k }, n)) (find (λ (entry : WireNo × ℕ). entry.0.0 == w) rest))) (same_wire k w here)
    by false is later = ap by_found later ∙ none n is
told_at k (n ∷ ns) (suc i) w e = by (nat_lt 0 n) (told_at (k + 1) ns i w (omega arith))
  where
    rest : List (WireNo × ℕ)
    rest = beyond 0 (k + 1) ns

    by : (b : Bool) → told_of rest w ≡ slice_index ns i → told_of (cond b ((record { 0 = k }, n) ∷ rest) rest) w ≡ slice_index ns i
    by true later = ap (λ t. by_found (cond t (Some (record { 0 = k }, n)) (find (λ (entry : WireNo × ℕ). entry.0.0 == w) rest))) (behind k w (omega arith)) ∙ later
    by false later = later

pub prices_told : PricesAreTold
prices_told past log trees counts tree p w is_log holders prices below =
    ap (λ history. (1 + slice_index history w) * (1 + (p.round - 1) * slice_index p.others.items w)) prices.histories
    ∙ ap (λ number. (1 + number) * (1 + (p.round - 1) * slice_index p.others.items w)) (sym (ap (λ entries. told_of entries w) is_log.history ∙ told_at 0 past.history w w (omega arith)))
    ∙ ap (λ round. (1 + told_of log.history.items w) * (1 + (round - 1) * slice_index p.others.items w)) (prices.number ∙ sym is_log.number)
    ∙ ap (λ others. (1 + told_of log.history.items w) * (1 + (log.round - 1) * others)) (prices.others w below ∙ ap (λ n. n - cond (holds w tree) 1 0) (holders.each w below))
