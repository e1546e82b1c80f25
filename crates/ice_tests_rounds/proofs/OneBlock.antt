-- The histories of three wires are one block, and a hand that claimed it may raise them.
use Rattle.std.proofs.Common.{◌≡◌, ℕ, zero, suc, ◌≤◌, ◌<◌, ◌^◌, [], ◌∷◌, length, slice_index, ap, arith, ◌∙◌}
use Rattle.ice_words_hands.specs.Parts.{own_changed}
use Rattle.ice_words_histories.specs.declared.view.HistoryView.{HistoryView}
use Rattle.ice_words_histories.specs.Blocks.{block_of, bumps_on, claims_on, claiming, first_part, no_part, own, with_own}
use Rattle.ice_words_histories.specs.Rule.{AreHistories}
use Rattle.ice_tests_rounds.specs.OneBlock.{three_histories}

pub histories_are : AreHistories three_histories
histories_are = record { wires = omega arith; low = low }
  where
    low : (w : ℕ) → w < 3 → slice_index three_histories w < 2 ^ 32
    low zero lt = omega arith
    low (suc zero) lt = omega arith
    low (suc (suc zero)) lt = omega arith
    low (suc (suc (suc w))) lt = absurd (omega arith)

pub wires_stay : (n : ℕ) (v after : HistoryView) → v.histories ≡ three_histories → after ≡ with_own (claiming n) v → length after.histories ≡ 3
wires_stay n v after histories is = ap (λ (u : HistoryView). length u.histories) is ∙ ap length histories

claimed_part : (n : ℕ) (v after : HistoryView) → n ≡ 0 → v.parts ≡ no_part ∷ [] → after ≡ with_own (claiming n) v → own after ≡ claiming 0 no_part
claimed_part n v after first fresh is = ap own is ∙ (ap (λ ps. first_part (own_changed (claiming n) ps)) fresh ∙ ap (λ m. claiming m no_part) first)

pub block_claimed : (n : ℕ) (v after : HistoryView) → n ≡ 0 → v.parts ≡ no_part ∷ [] → after ≡ with_own (claiming n) v → 1 ≤ claims_on (block_of 1) (own after)
block_claimed n v after first fresh is = omega (arith, ap (claims_on 0) (claimed_part n v after first fresh is))

pub wire_is_new : (n : ℕ) (v after : HistoryView) → n ≡ 0 → v.parts ≡ no_part ∷ [] → after ≡ with_own (claiming n) v → bumps_on 1 (own after) ≡ 0
wire_is_new n v after first fresh is = ap (bumps_on 1) (claimed_part n v after first fresh is)
