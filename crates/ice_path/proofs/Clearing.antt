-- Clearing one wire after another.
use Rattle.std.proofs.Common.{◌≡◌, ℕ, zero, suc, ◌+◌, ◌≤◌, ◌<◌, Bool, true, false, List, ◌∷◌, Option, Some, None, length, drop, get_or, slice_set, refl, sym, ap, ◌∙◌, subst, arith, inl, inr, ◌⊎◌, get_or-set_same, get_or-set_other}
use Rattle.std.proofs.lemmas.Bool.{cases_eq, false≢true}
use Rattle.std.proofs.lemmas.List.{drop_more, drop_all}
use Rattle.std.specs.List.{Contains}
use Rattle.ice_path.specs.Search.{label, done, IsOnlyAt}

contains_cases : (x y : ℕ) (xs : List ℕ) → Contains (y ∷ xs) x → (y ≡ x) ⊎ Contains xs x
contains_cases x y xs h = go h.0 h.1 h.2
  where
    go : (k : ℕ) → k < length (y ∷ xs) → get_or (y ∷ xs) k x ≡ x → (y ≡ x) ⊎ Contains xs x
    go zero lt is = inl is
    go (suc k) lt is = inr (k, omega arith, is)

wiped_one : (labels : List (Option ℕ)) (settled : List Bool) (x : ℕ) (left : List ℕ) → x < length labels → x < length settled → IsOnlyAt (x ∷ left) labels settled → IsOnlyAt left (slice_set labels x None) (slice_set settled x false)
wiped_one labels settled x left lt lt' h = record {
  labelled = λ w l at. elim (cases_eq w x) [
    | inl same ↦ (let bad : Some l ≡ None = sym at ∙ (ap (label (slice_set labels x None)) same ∙ get_or-set_same labels x None None lt) in absurd (cc))
    | inr other ↦ elim (contains_cases w x left (h.labelled w l (sym (get_or-set_other labels x w None None other) ∙ at))) [
      | inl same ↦ absurd (other (sym same))
      | inr there ↦ there
    ]
  ];
  closed = λ w is. elim (cases_eq w x) [
    | inl same ↦ absurd (false≢true (sym (ap (done (slice_set settled x false)) same ∙ get_or-set_same settled x false false lt') ∙ is))
    | inr other ↦ elim (contains_cases w x left (h.closed w (sym (get_or-set_other settled x w false false other) ∙ is))) [
      | inl same ↦ absurd (other (sym same))
      | inr there ↦ there
    ]
  ];
}

pub wiped_more : (labels : List (Option ℕ)) (settled : List Bool) (touched : List ℕ) (i : ℕ) → i < length touched → get_or touched i 0 < length labels → length settled ≡ length labels
    → IsOnlyAt (drop i touched) labels settled → IsOnlyAt (drop (i + 1) touched) (slice_set labels (get_or touched i 0) None) (slice_set settled (get_or touched i 0) false)
wiped_more labels settled touched i lt within long h =
    wiped_one labels settled (get_or touched i 0) (drop (i + 1) touched) within (omega arith) (subst (λ ws. IsOnlyAt ws labels settled) (drop_more touched i 0 lt) h)

none_of : (o : Option ℕ) → ((l : ℕ) → o ≡ Some l → ⊥) → o ≡ None
none_of None h = refl
none_of (Some l) h = absurd (h l refl)

false_of : (b : Bool) → (b ≡ true → ⊥) → b ≡ false
false_of false h = refl
false_of true h = absurd (h refl)

pub wiped_all : (labels : List (Option ℕ)) (settled : List Bool) (touched : List ℕ) (i : ℕ) → length touched ≤ i → IsOnlyAt (drop i touched) labels settled → (w : ℕ) → label labels w ≡ None
wiped_all labels settled touched i le h w = none_of (label labels w) (λ l at. (let t = subst (λ ws. Contains ws w) (drop_all i touched le) (h.labelled w l at) in absurd (omega (arith, t.1))))

pub unsettled_all : (labels : List (Option ℕ)) (settled : List Bool) (touched : List ℕ) (i : ℕ) → length touched ≤ i → IsOnlyAt (drop i touched) labels settled → (w : ℕ) → done settled w ≡ false
unsettled_all labels settled touched i le h w = false_of (done settled w) (λ is. (let t = subst (λ ws. Contains ws w) (drop_all i touched le) (h.closed w is) in absurd (omega (arith, t.1))))
