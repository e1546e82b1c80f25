-- Which wires were touched.
use Rattle.std.proofs.Common.{◌≡◌, ℕ, zero, suc, ◌≤◌, ◌<◌, Bool, true, cond, List, [], ◌∷◌, ◌++◌, Option, Some, None, length, get_or, slice_set, count_by, refl, sym, ap, ◌∙◌, subst, arith, inl, inr, get_or-set_other, length-set}
use Rattle.std.proofs.lemmas.Bool.{cases_eq}
use Rattle.std.proofs.lemmas.List.{length_push}
use Rattle.std.proofs.lemmas.List.Elements.{Contains-append_left, Contains-push, All-push, All-nil, All-weaker}
use Rattle.std.proofs.lemmas.List.Sums.{sum_by-set, sum_by-cons}
use Rattle.std.specs.List.{All, Contains}
use Rattle.ice_path.specs.Search.{label, done, unlabelled, IsOnlyAt, Touches}

-- a wire without a label gets one, and is touched
pub touched_new : (labels : List (Option ℕ)) (touched : List ℕ) (w d : ℕ) → w < length labels → label labels w ≡ None → Touches labels touched → Touches (slice_set labels w (Some d)) (touched ++ w ∷ [])
touched_new labels touched w d lt is h =
    let long = length-set labels w (Some d) in
    record {
      covers = λ v l at. elim (cases_eq v w) [
        | inl same ↦ subst (Contains (touched ++ w ∷ [])) (sym same) (Contains-push touched w)
        | inr other ↦ Contains-append_left touched (w ∷ []) v (h.covers v l (sym (get_or-set_other labels w v (Some d) None other) ∙ at))
      ];
      room = (
          let e = sum_by-set (λ b. cond (unlabelled b) 1 0) labels w (Some d) None lt in
          let was : cond (unlabelled (get_or labels w None)) 1 0 ≡ suc zero = ap (λ b. cond (unlabelled b) 1 0) is in
          let more = length_push touched w in
          let room = h.room in
          omega (arith, e, was, more, room, long));
      within = All-push (λ v. v < length (slice_set labels w (Some d))) touched w (All-weaker (λ v. v < length labels) (λ v. v < length (slice_set labels w (Some d))) (λ v v_lt. omega (arith, v_lt, long)) touched h.within) (omega arith);
    }

-- a wire with a label gets another
pub touched_again : (labels : List (Option ℕ)) (touched : List ℕ) (w d l : ℕ) → w < length labels → label labels w ≡ Some l → Touches labels touched → Touches (slice_set labels w (Some d)) touched
touched_again labels touched w d l lt is h =
    let long = length-set labels w (Some d) in
    record {
      covers = λ v k at. elim (cases_eq v w) [
        | inl same ↦ h.covers v l (ap (label labels) same ∙ is)
        | inr other ↦ h.covers v k (sym (get_or-set_other labels w v (Some d) None other) ∙ at)
      ];
      room = (
          let e = sum_by-set (λ b. cond (unlabelled b) 1 0) labels w (Some d) None lt in
          let was : cond (unlabelled (get_or labels w None)) 1 0 ≡ zero = ap (λ b. cond (unlabelled b) 1 0) is in
          let room = h.room in
          omega (arith, e, was, room, long));
      within = All-weaker (λ v. v < length labels) (λ v. v < length (slice_set labels w (Some d))) (λ v v_lt. omega (arith, v_lt, long)) touched h.within;
    }

unlabelled_one : (labels : List (Option ℕ)) (w : ℕ) → w < length labels → label labels w ≡ None → 1 ≤ count_by unlabelled labels
unlabelled_one labels w lt is =
    let e = sum_by-set (λ b. cond (unlabelled b) 1 0) labels w (Some 0) None lt in
    let was : cond (unlabelled (get_or labels w None)) 1 0 ≡ suc zero = ap (λ b. cond (unlabelled b) 1 0) is in
    omega (arith, e, was)

-- where a wire has no label, fewer wires were touched than there are
pub room_left : (labels : List (Option ℕ)) (touched : List ℕ) (w : ℕ) → w < length labels → label labels w ≡ None → Touches labels touched → length touched < length labels
room_left labels touched w lt is h = let one' = unlabelled_one labels w lt is in let room = h.room in omega arith

pub no_label : (labels : List (Option ℕ)) (w d : ℕ) → label labels w ≡ None → (l : ℕ) → label labels w ≡ Some l → d < l
no_label labels w d none l e = let bad : Some l ≡ None = sym e ∙ none in absurd (cc)

pub one_label : (labels : List (Option ℕ)) (w d k : ℕ) → label labels w ≡ Some k → d < k → (l : ℕ) → label labels w ≡ Some l → d < l
one_label labels w d k here lt l e = let same : Some l ≡ Some k = sym e ∙ here in let eq : l ≡ k = (cc) in omega arith

none_touched : (labels : List (Option ℕ)) → ((w : ℕ) → label labels w ≡ None) → count_by unlabelled labels ≡ length labels
none_touched [] fresh = refl
none_touched (x ∷ labels) fresh =
    let rest = none_touched labels (λ w. fresh (suc w)) in
    let first : cond (unlabelled x) 1 0 ≡ suc zero = ap (λ b. cond (unlabelled b) 1 0) (fresh 0) in
    let e = sum_by-cons (λ b. cond (unlabelled b) 1 0) x labels in
    omega (arith, e, first, rest)

-- where no wire has a label, none was touched
pub touches_none : (labels old : List (Option ℕ)) (touched : List ℕ) → labels ≡ old → touched ≡ [] → ((w : ℕ) → label old w ≡ None) → Touches labels touched
touches_none labels old touched same empty fresh =
    let none : (w : ℕ) → label labels w ≡ None = λ w. ap (λ ls. label ls w) same ∙ fresh w in
    let all = none_touched labels none in
    record {
      covers = λ w l at. (let bad : Some l ≡ None = sym at ∙ none w in absurd (cc));
      room = (let short : length touched ≡ 0 = ap length empty in omega (arith, all, short));
      within = subst (All (λ w. w < length labels)) (sym empty) (All-nil (λ w. w < length labels));
    }

-- the wires with a label and those that are settled were touched
pub only_at : (wires touched : List ℕ) (labels ls : List (Option ℕ)) (settled ss : List Bool) → wires ≡ touched → labels ≡ ls → settled ≡ ss → Touches ls touched → ((w : ℕ) → done ss w ≡ true → Contains touched w) → IsOnlyAt wires labels settled
only_at wires touched labels ls settled ss a b c h closed = record {
  labelled = λ w l at. subst (λ ws. Contains ws w) (sym a) (h.covers w l (ap (λ x. label x w) (sym b) ∙ at));
  closed = λ w is. subst (λ ws. Contains ws w) (sym a) (closed w (ap (λ x. done x w) (sym c) ∙ is));
}
