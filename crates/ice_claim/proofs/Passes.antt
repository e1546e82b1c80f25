-- What a pass keeps of itself through its steps: it has a part, and each wire that it has taken has a word.
use Rattle.std.proofs.Common.{◌≡◌, ℕ, ◌+◌, ◌≤◌, ◌<◌, List, [], ◌∷◌, ◌++◌, length, length-append, inl, inr, refl, sym, subst, arith}
use Rattle.std.proofs.lemmas.Bool.{cases_eq, cases_lt}
use Rattle.std.proofs.lemmas.List.Sums.{sum_by-cons}
use Rattle.ice_words_hands.specs.Parts.{own_of}
use Rattle.ice_words_hands.proofs.Parts.{own_is, own_length}
use Rattle.ice_claim.specs.declared.view.ClaimPart.{ClaimPart}
use Rattle.ice_claim.specs.declared.view.ClaimView.{ClaimView}
use Rattle.ice_claim.specs.Claims.{takes_pair, no_part, pair_of, claiming, ending, taking, losing, giving, own, with_own, with_parts}
use Rattle.ice_claim.specs.Rule.{AreAmong, Draws, Tries}
use Rattle.ice_claim.proofs.Counting.{bit_of, bit_cases}
use Rattle.ice_claim.proofs.Steps.{fewer}

-- a view with a part, whose own wires have words
pub record IsSound (words : ℕ) (v : ClaimView) : Type 0 where
  pub some_part : 1 ≤ length v.parts
  pub among : AreAmong words v

changed : (words : ℕ) (f : ClaimPart → ClaimPart) (v after : ClaimView) → 1 ≤ length v.parts → ((n w : ℕ) → 1 ≤ takes_pair n w (f (own v)) → w + 1 < words) → after ≡ with_own f v → IsSound words after
changed words f v after some_part among is = subst (IsSound words) (sym is) (record {
  some_part = omega (arith, own_length f v.parts, some_part);
  among = λ n w. subst (λ (p : ClaimPart). 1 ≤ takes_pair n w p → w + 1 < words) (sym (own_is no_part f v.parts some_part)) (among n w);
})

pub drawn_pass : (words n : ℕ) (v after : ClaimView) → 1 ≤ length v.parts → AreAmong words v → Draws v n after → IsSound words after
drawn_pass words n v after some_part among draws = elim (cases_lt n (length v.lists)) [
  | inl lt ↦ changed words (claiming n) v after some_part among (draws.number lt).0
  | inr ge ↦ changed words ending v after some_part among (draws.none ge)
]

pub tried_pass : (words net w n : ℕ) (v after : ClaimView) → 1 ≤ length v.parts → AreAmong words v → w + 1 < words → Tries v net w n after → IsSound words after
tried_pass words net w n v after some_part among lt tries = elim (cases_eq n 0) [
  | inl free ↦ changed words (taking net w) v after some_part with_taken (tries.taken free)
  | inr held ↦ changed words (losing net w) v after some_part among (tries.lost held).0
]
  where
    with_taken : (m x : ℕ) → 1 ≤ takes_pair m x (taking net w (own v)) → x + 1 < words
    with_taken m x some_of = elim (bit_cases m x (pair_of net w)) [
      | inl here ↦ subst (λ k. k + 1 < words) here.1 lt
      | inr none ↦ among m x (omega (arith, some_of, none, sum_by-cons (bit_of m x) (pair_of net w) (own v).taken))
    ]

pub given_pass : (words net w : ℕ) (v after : ClaimView) → 1 ≤ length v.parts → AreAmong words v → 1 ≤ takes_pair net w (own v) → after ≡ with_own (giving net w) v → IsSound words after
given_pass words net w v after some_part among held is = changed words (giving net w) v after some_part (λ m x some_of. among m x (omega (arith, some_of, fewer net w m x (own v) held))) is

pub joined_pass : (words : ℕ) (v u after : ClaimView) → 1 ≤ length v.parts → AreAmong words v → after ≡ with_parts v u → IsSound words after
joined_pass words v u after some_part among is = subst (IsSound words) (sym is) (record { some_part = omega (arith, length-append v.parts u.parts, some_part); among = λ n w. subst (λ (p : ClaimPart). 1 ≤ takes_pair n w p → w + 1 < words) (front v.parts some_part) (among n w) })
  where
    front : (ps : List ClaimPart) → 1 ≤ length ps → own_of no_part ps ≡ own_of no_part (ps ++ u.parts)
    front [] none = absurd (omega arith)
    front (p ∷ ps) some_here = refl
