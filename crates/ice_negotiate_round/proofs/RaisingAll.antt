-- Hands that raised their blocks are joined, and the histories are the next ones.
use Rattle.std.proofs.Common.{◌≡◌, ℕ, zero, suc, ◌+◌, ◌-◌, ◌≤◌, ◌<◌, List, [], ◌∷◌, ◌++◌, length, slice_index, inl, inr, refl, sym, ap, subst, arith, ◌∙◌}
use Rattle.std.proofs.lemmas.List.Sums.{sum_by_push}
use Rattle.std.specs.List.{sum_by, AllByRecursion}
use Rattle.ice_words_histories.specs.declared.view.HistoryPart.{HistoryPart}
use Rattle.ice_words_histories.specs.declared.view.HistoryView.{HistoryView}
use Rattle.ice_words_histories.specs.Blocks.{ends_of, with_parts}
use Rattle.ice_words_histories.specs.Grips.{Board, Grip}
use Rattle.ice_core.specs.Congestion.{next_history}
use Rattle.ice_core.proofs.Sums.{each_append}
use Rattle.ice_worker_raise.specs.Closing.{HasRaised}
use Rattle.ice_worker_raise.specs.Raised.{raised_part}
use Rattle.ice_negotiate_round.specs.Raising.{AreJoined, HasFinished, history_main, history_worker}

pub none_joined : (histories counts : List ℕ) (splits out : ℕ) (view : HistoryView) → view ≡ history_main histories splits out [] → AreJoined histories counts splits out 0 view
none_joined histories counts splits out view is = record { parts = []; is = is; raised = tt; ended = omega arith }

pub one_joined : (board : Board) (counts : List ℕ) (splits out more joined : ℕ) (hand : Grip) (old new : HistoryView) → HasFinished board counts hand → new ≡ with_parts old hand.view → more ≡ out + 1 → AreJoined board.histories counts splits more joined old
    → AreJoined board.histories counts splits out (joined + 1) new
one_joined board counts splits out more joined hand old new done is more_is h =
    let part = raised_part counts (length board.histories) done.blocks in
    let one_less : more - 1 ≡ out = omega (arith, more_is) in
    record {
      parts = h.parts ++ part ∷ [];
      is = is ∙ (ap (λ (v : HistoryView). with_parts v hand.view) h.is ∙ (ap (λ (v : HistoryView). with_parts (history_main board.histories splits more h.parts) v) done.view ∙ ap (λ k. history_main board.histories splits k (h.parts ++ part ∷ [])) one_less));
      raised = each_append (HasRaised counts (length board.histories)) h.parts (part ∷ []) h.raised (inr (done.blocks, refl), tt);
      ended = omega (arith, h.ended, sum_by_push ends_of h.parts part);
    }

pub next_is : (history counts new : List ℕ) → length counts ≡ length history → length new ≡ length history → ((w : ℕ) → w < length history → slice_index new w ≡ slice_index history w + (slice_index counts w - 1)) → new ≡ next_history history counts
next_is [] counts [] long new_long each = refl
next_is [] counts (n ∷ new) long new_long each = absurd (omega arith)
next_is (h ∷ history) [] new long new_long each = absurd (omega arith)
next_is (h ∷ history) (c ∷ counts) [] long new_long each = absurd (omega arith)
next_is (h ∷ history) (c ∷ counts) (n ∷ new) long new_long each =
    let first : n ≡ h + (c - 1) = each 0 (omega arith) in
    let rest = next_is history counts new (omega arith) (omega arith) (λ w lt. each (suc w) (omega arith)) in
    λ k. first k ∷ rest k
