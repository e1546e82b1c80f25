-- Raising the history of one wire after another.
use Rattle.std.proofs.Common.{◌≡◌, ℕ, suc, ◌+◌, ◌-◌, ◌≤◌, ◌<◌, List, [], ◌∷◌, length, slice_set, slice_index, refl, sym, ap, ◌∙◌, subst, arith, inl, inr, get_or-set_same, get_or-set_other, length-set}
use Rattle.std.proofs.lemmas.Bool.{cases_eq}
use Rattle.ice_core.specs.Congestion.{next_history}

-- the histories of the first i wires have risen
pub record RaisedTo (old counts : List ℕ) (i : ℕ) (history : List ℕ) : Type 0 where
  pub long : length history ≡ length old
  pub raised : (w : ℕ) → w < i → slice_index history w ≡ slice_index old w + (slice_index counts w - 1)
  pub kept : (w : ℕ) → i ≤ w → slice_index history w ≡ slice_index old w

pub raised_none : (old counts : List ℕ) → RaisedTo old counts 0 old
raised_none old counts = record { long = refl; raised = λ w lt. absurd (omega arith); kept = λ w le. refl }

pub raised_more : (old counts : List ℕ) (i : ℕ) (history : List ℕ) → i < length history → RaisedTo old counts i history
    → RaisedTo old counts (i + 1) (slice_set history i (slice_index history i + (slice_index counts i - 1)))
raised_more old counts i history lt h =
    let n : ℕ = slice_index history i + (slice_index counts i - 1) in
    record {
      long = length-set history i n ∙ h.long;
      raised = λ w w_lt. elim (cases_eq w i) [
        | inl same ↦ subst (λ x. slice_index (slice_set history i n) x ≡ slice_index old x + (slice_index counts x - 1)) (sym same) (get_or-set_same history i n 0 lt ∙ ap (λ x. x + (slice_index counts i - 1)) (h.kept i (omega arith)))
        | inr other ↦ get_or-set_other history i w n 0 other ∙ h.raised w (grind arith)
      ];
      kept = λ w le. get_or-set_other history i w n 0 (λ same. omega arith) ∙ h.kept w (omega arith);
    }

pub raised_all : (old counts history : List ℕ) → length counts ≡ length old → length history ≡ length old
    → ((w : ℕ) → w < length old → slice_index history w ≡ slice_index old w + (slice_index counts w - 1)) → history ≡ next_history old counts
raised_all [] counts [] c l e = refl
raised_all [] counts (n ∷ history) c l e = absurd (omega arith)
raised_all (h ∷ old) [] history c l e = absurd (omega arith)
raised_all (h ∷ old) (x ∷ counts) [] c l e = absurd (omega arith)
raised_all (h ∷ old) (x ∷ counts) (n ∷ history) c l e =
    let first : n ≡ h + (x - 1) = e 0 (omega arith) in
    let rest : history ≡ next_history old counts = raised_all old counts history (omega arith) (omega arith) (λ w lt. e (suc w) (omega arith)) in
    cc
