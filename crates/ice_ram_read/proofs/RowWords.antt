-- Words that get the contents of a row, one after another.
use Rattle.std.proofs.Common.{◌≡◌, ℕ, ◌+◌, ◌/◌, ◌==◌, ◌≤◌, ◌<◌, Bool, List, [], length, length-set, get_or, set, get_or-set_same, get_or-set_other, if◌then◌else◌, inl, inr, refl, sym, ap, subst, ◌∙◌, arith}
use Rattle.std.proofs.lemmas.Bool.{cases_eq}
use Rattle.std.proofs.lemmas.List.FromFn.{fill_by_all}
use Rattle.ice_ram_read.specs.RamData.{row_word, new_word, with_row}

-- the first i words are new
pub record SetTo (old : List (List Bool)) (row : ℕ) (digits : List ℕ) (i : ℕ) (words : List (List Bool)) : Type 0 where
  pub long : length words ≡ 256
  pub done : (j : ℕ) → j < i → get_or words j [] ≡ new_word old row digits j
  pub kept : (j : ℕ) → i ≤ j → get_or words j [] ≡ get_or old j []

pub set_none : (old : List (List Bool)) (row : ℕ) (digits : List ℕ) → length old ≡ 256 → SetTo old row digits 0 old
set_none old row digits long = record { long = long; done = λ j lt. absurd (omega arith); kept = λ j le. refl }

pub set_more : (old : List (List Bool)) (row : ℕ) (digits : List ℕ) (i : ℕ) (words : List (List Bool)) (word : List Bool) → i < 256 → word ≡ new_word words row digits i
    → SetTo old row digits i words → SetTo old row digits (i + 1) (set words i word)
set_more old row digits i words word lt is h =
    let within : i < length words = omega (arith, h.long) in
    let same : word ≡ new_word old row digits i = is ∙ ap (λ w. if i / 16 == row then row_word digits i else w) (h.kept i (omega arith)) in
    record {
      long = length-set words i word ∙ h.long;
      done = λ j j_lt. elim (cases_eq j i) [
        | inl e ↦ subst (λ k. get_or (set words i word) k [] ≡ new_word old row digits k) (sym e) (get_or-set_same words i word [] within ∙ same)
        | inr other ↦ get_or-set_other words i j word [] other ∙ h.done j (grind arith)
      ];
      kept = λ j le. get_or-set_other words i j word [] (λ e. omega arith) ∙ h.kept j (omega arith);
    }

pub set_all : (old : List (List Bool)) (row : ℕ) (digits : List ℕ) (i : ℕ) (words : List (List Bool)) → 256 ≤ i → SetTo old row digits i words → words ≡ with_row old row digits
unfolding with_row
set_all old row digits i words le h = fill_by_all (new_word old row digits) words 256 [] h.long (λ k lt. h.done k (omega arith))
