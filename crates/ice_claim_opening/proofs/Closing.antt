-- What all notes say, once every pass is joined and the table is closed.
use Rattle.std.proofs.Common.{◌≡◌, ◌≢◌, ℕ, ◌+◌, ◌≤◌, List, [], ◌∷◌, length, min, sym, ap, subst, arith, inl, inr, ◌∙◌}
use Rattle.std.proofs.lemmas.Bool.{cases_eq}
use Rattle.std.proofs.lemmas.List.Sums.{sum_by-cons}
use Rattle.std.specs.List.{sum_by, count_by}
use Rattle.ice_core.specs.Routes.{sum_below}
use Rattle.ice_core.proofs.Sums.{below_ones}
use Rattle.ice_claim.specs.declared.view.Pair.{Pair}
use Rattle.ice_claim.specs.declared.view.ClaimPart.{ClaimPart}
use Rattle.ice_claim.specs.declared.view.ClaimView.{ClaimView}
use Rattle.ice_claim.specs.Claims.{total, claims, ends_of, is_on, is_pair, takes_on, takes_pair}
use Rattle.ice_claim.specs.Grips.{Board}
use Rattle.ice_claim.specs.Rule.{AreLists, IsClosing}
use Rattle.ice_claim.proofs.Counting.{bit_of, on_of, bit_cases, bit_on}
use Rattle.ice_claim.proofs.Steps.{listed_below}
use Rattle.ice_claim_opening.specs.declared.notes.Note.{Note}
use Rattle.ice_claim_opening.specs.Notes.{AreAllNotes, AreInTurn, AreNotes}
use Rattle.ice_claim_opening.proofs.Noting.{noted_for}

-- the pairs of two nets on a wire are among those on it
two_bits : (i j w : ℕ) (q : Pair) → i ≢ j → bit_of i w q + bit_of j w q ≤ on_of w q
two_bits i j w q apart = elim (bit_cases i w q) [
  | inl here ↦ elim (bit_cases j w q) [
    | inl also ↦ absurd (apart (sym here.0 ∙ also.0))
    | inr none ↦ omega (arith, none, bit_on i w q)
  ]
  | inr none ↦ omega (arith, none, bit_on j w q)
]

two_in : (i j w : ℕ) (qs : List Pair) → i ≢ j → count_by (is_pair i w) qs + count_by (is_pair j w) qs ≤ count_by (is_on w) qs
two_in i j w [] apart = omega arith
two_in i j w (q ∷ qs) apart = omega (arith, sum_by-cons (bit_of i w) q qs, sum_by-cons (bit_of j w) q qs, sum_by-cons (on_of w) q qs, two_bits i j w q apart, two_in i j w qs apart)

two_of : (i j w : ℕ) (parts : List ClaimPart) → i ≢ j → sum_by (takes_pair i w) parts + sum_by (takes_pair j w) parts ≤ sum_by (takes_on w) parts
two_of i j w [] apart = omega arith
two_of i j w (p ∷ ps) apart = omega (arith, sum_by-cons (takes_pair i w) p ps, sum_by-cons (takes_pair j w) p ps, sum_by-cons (takes_on w) p ps, two_in i j w p.taken apart, two_of i j w ps apart)

-- where some pass was answered None, all nets were claimed
all_claimed : (wires : ℕ) (v : ClaimView) (closed : List ℕ) → IsClosing wires v closed → 1 ≤ total ends_of v → min (total claims v + total ends_of v) (length v.lists) ≡ length v.lists
all_claimed wires v closed h some_of =
    let n : ℕ = total claims v in
    let count : n ≡ min (n + total ends_of v) (length v.lists) = h.draws (λ x. 1) ∙ below_ones (min (n + total ends_of v) (length v.lists)) in
    least n (total ends_of v) (length v.lists) some_of count
  where
    least : (n e m : ℕ) → 1 ≤ e → n ≡ min (n + e) m → min (n + e) m ≡ m
    least n e m more count = omega arith

pub all_noted : (wires workers : ℕ) (lists : List (List ℕ)) (v : ClaimView) (closed : List ℕ) (notes : List Note) → AreLists wires lists → v.lists ≡ lists → IsClosing wires v closed → 1 ≤ total ends_of v → AreNotes lists v.parts notes → (workers ≡ 1 → AreInTurn lists notes)
    → AreAllNotes lists workers notes
all_noted wires workers lists v closed notes start same h some_of noted turn = record {
  nets = λ f. sym (noted.nets f) ∙ (h.draws f ∙ (ap (λ k. sum_below k f) (all_claimed wires v closed h some_of) ∙ ap (λ ls. sum_below (length ls) f) same));
  apart = λ i j w one other. elim (cases_eq i j) [
    | inl is ↦ is
    | inr far ↦
        let listed = (noted_for lists notes i w one).5 in
        let lt = listed_below wires lists i w start listed in
        absurd (omega (arith, one, other, noted.taken i w, noted.taken j w, two_of i j w v.parts far, h.taken w lt, h.once w lt))
  ];
  losses = noted.losses;
  turn = turn;
}

-- the same for a table
pub of_board : (board : Board) (wires workers : ℕ) (lists : List (List ℕ)) (v : ClaimView) (closed : List ℕ) (notes : List Note) → (board.wires ≡ wires) × (board.lists ≡ lists) → AreLists wires lists → v.lists ≡ board.lists → IsClosing board.wires v closed → 1 ≤ total ends_of v
    → AreNotes board.lists v.parts notes → (workers ≡ 1 → AreInTurn board.lists notes) → AreAllNotes lists workers notes
of_board board wires workers lists v closed notes of start same h some_of noted turn =
    all_noted wires workers lists v closed notes start (same ∙ of.1) (subst (λ n. IsClosing n v closed) of.0 h) some_of
    (subst (λ ls. AreNotes ls v.parts notes) of.1 noted)
    (λ one. subst (λ ls. AreInTurn ls notes) of.1 (turn one))
