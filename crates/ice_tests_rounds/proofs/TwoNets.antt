-- The lists of the two nets, and what their passes know.
use Rattle.std.proofs.Common.{◌≡◌, ◌≢◌, ℕ, zero, suc, ◌+◌, ◌≤◌, ◌<◌, List, [], ◌∷◌, length, inl, inr, refl, sym, ap, subst, arith, ◌∙◌}
use Rattle.std.proofs.lemmas.Bool.{cases_eq}
use Rattle.std.proofs.lemmas.List.Sums.{sum_by-cons}
use Rattle.std.specs.List.{sum_by, AllByRecursion}
use Rattle.ice_core.specs.Routes.{times, wires_of}
use Rattle.ice_core.proofs.Sums.{is_at, at_itself, at_other, times_cons}
use Rattle.ice_words_hands.specs.Parts.{own_changed}
use Rattle.ice_words_hands.proofs.Parts.{own_is, own_sum}
use Rattle.ice_claim.specs.declared.view.ClaimPart.{ClaimPart}
use Rattle.ice_claim.specs.declared.view.ClaimView.{ClaimView}
use Rattle.ice_claim.specs.Claims.{total, claims_on, pair_of, takes_pair, no_part, claiming, taking, losing, own, with_own}
use Rattle.ice_claim.specs.Rule.{AreLists}
use Rattle.ice_claim.proofs.Counting.{bit_of, bit_itself}
use Rattle.ice_tests_rounds.specs.TwoNets.{two_nets, Wants, HasTaken}

two_once : (a b w : ℕ) → a ≢ b → times w (a ∷ b ∷ []) ≤ 1
two_once a b w apart = elim (cases_eq a w) [
  | inl first ↦ omega (arith, times_cons w a (b ∷ []), times_cons w b [], one a w first, at_other b w (λ e. apart (first ∙ sym e)))
  | inr other ↦ omega (arith, times_cons w a (b ∷ []), times_cons w b [], at_other a w other, most b w)
]
  where
    one : (x y : ℕ) → x ≡ y → is_at x y ≡ 1
    one x y same = ap (λ z. is_at z y) same ∙ at_itself y

    most : (x y : ℕ) → is_at x y ≤ 1
    most x y = elim (cases_eq x y) [
      | inl same ↦ omega (arith, one x y same)
      | inr ne ↦ omega (arith, at_other x y ne)
    ]

pub nets_are : AreLists 3 two_nets
nets_are = record { few = omega arith; within = within; once = once }
  where
    within : (n : ℕ) → AllByRecursion (λ w. w < 3) (wires_of two_nets n)
    within zero = (omega arith, (omega arith, tt))
    within (suc zero) = (omega arith, (omega arith, tt))
    within (suc (suc n)) = tt

    once : (n w : ℕ) → times w (wires_of two_nets n) ≤ 1
    once zero w = two_once 0 2 w (λ e. absurd (omega arith))
    once (suc zero) w = two_once 1 2 w (λ e. absurd (omega arith))
    once (suc (suc n)) w = omega arith

pub both_want : (net : ℕ) → net < 2 → 1 ≤ times 2 (wires_of two_nets net)
both_want zero lt = omega arith
both_want (suc zero) lt = omega arith
both_want (suc (suc n)) lt = absurd (omega arith)

some_part : (net : ℕ) (v : ClaimView) → Wants net v → 1 ≤ length v.parts
some_part net v h = of_parts v.parts h.claimed
  where
    of_parts : (ps : List ClaimPart) → 1 ≤ sum_by (claims_on net) ps → 1 ≤ length ps
    of_parts [] some_of = absurd (omega arith)
    of_parts (p ∷ ps) some_of = omega arith

pub claim_wants : (net : ℕ) (v after : ClaimView) → v.parts ≡ no_part ∷ [] → after ≡ with_own (claiming net) v → Wants net after
claim_wants net v after fresh is =
    let parts : after.parts ≡ claiming net no_part ∷ [] = ap (λ (u : ClaimView). u.parts) is ∙ ap (own_changed (claiming net)) fresh in
    record {
      claimed = omega (arith, ap (sum_by (claims_on net)) parts, at_itself net);
      new = ap (sum_by (takes_pair net 2)) parts;
    }

pub lose_wants : (net : ℕ) (v after : ClaimView) → Wants net v → after ≡ with_own (losing net 2) v → Wants net after
lose_wants net v after h is =
    let parts = ap (λ (u : ClaimView). u.parts) is in
    let here = some_part net v h in
    record {
      claimed = omega (arith, ap (sum_by (claims_on net)) parts, own_sum (claims_on net) no_part (losing net 2) v.parts here, h.claimed);
      new = omega (arith, ap (sum_by (takes_pair net 2)) parts, own_sum (takes_pair net 2) no_part (losing net 2) v.parts here, h.new);
    }

pub take_has : (net : ℕ) (v after : ClaimView) → Wants net v → after ≡ with_own (taking net 2) v → HasTaken net after
take_has net v after h is =
    let mine : own after ≡ taking net 2 (own v) = ap own is ∙ own_is no_part (taking net 2) v.parts (some_part net v h) in
    omega (arith, ap (takes_pair net 2) mine, sum_by-cons (bit_of net 2) (pair_of net 2) (own v).taken, bit_itself net 2)
