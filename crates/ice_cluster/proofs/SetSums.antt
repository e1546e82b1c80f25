-- Sums over the control sets of flip-flops do not depend on the order of the flip-flops.
use Rattle.std.proofs.Common.{◌≡◌, ◌⊎◌, ℕ, suc, ◌+◌, Bool, true, false, cond, Some, List, [], ◌∷◌, ◌++◌, inl, inr, length, map, refl, ap, sym, ◌∙◌, subst, arith}
use Rattle.std.specs.Prelude.{filter, fold, IsPermutation}
use Rattle.std.specs.List.{list_any, sum_by}
use Rattle.std.proofs.lemmas.List.{length-map}
use Rattle.std.proofs.lemmas.List.Sorted.{sum_by-IsPermutation, IsPermutation-sym}
use Rattle.std.proofs.lemmas.List.Sums.{sum_by-cons}
use Rattle.ice_base_values.specs.Order.{Has, StandOnce}
use Rattle.ice_base_values.proofs.Members.{Has_none, map_Has}
use Rattle.ice_base_values.proofs.Places.{At_push_cases}
use Rattle.ice_cells.specs.declared.cell.Control.{Control}
use Rattle.ice_cells.specs.Same.{same_control}
use Rattle.ice_cells.specs.Sets.{FlopCell, with_set, sets_of, cells_with}
use Rattle.ice_cells.proofs.Permuted.{Has_permuted}
use Rattle.ice_cells.proofs.SameControls.{same_control_is, same_control_self}
use Rattle.ice_cluster.proofs.Counted.{total, hit_once, sets_have, four}
use Rattle.ice_cluster.proofs.Grouping.{sets_once, none_once}
use Rattle.ice_cluster.proofs.Tallies.{nothing_before, one_if}

-- ---- the control sets are those of flip-flops
set_back : (sets : List Control) (control s : Control) (b : Bool) → Has (cond b sets (sets ++ control ∷ [])) s → Has sets s ⊎ (control ≡ s)
set_back sets control s true has = inl has
set_back sets control s false has = elim (At_push_cases sets control has.0 s has.1) [ inl old ↦ inl (has.0, old) | inr new ↦ inr new.1 ]

sets_back : (sets controls : List Control) (s : Control) → Has (fold with_set sets controls) s → Has sets s ⊎ Has controls s
sets_back sets [] s has = inl has
sets_back sets (control ∷ controls) s has = elim (sets_back (with_set sets control) controls s has) [
  | inl early ↦ elim (set_back sets control s (list_any (same_control control) sets) early) [ inl old ↦ inl old | inr same ↦ inr (0, ap Some same) ]
  | inr late ↦ inr (suc late.0, late.1)
]

abbrev control_in : FlopCell → Control
control_in flop = flop.1

sets_among : (flops others : List FlopCell) (s : Control) → ((flop : FlopCell) → Has flops flop → Has others flop) → Has (sets_of flops) s → Has (sets_of others) s
sets_among flops others s among has = elim (sets_back [] (map control_in flops) s has) [
  | inl none ↦ absurd (Has_none s none)
  | inr some ↦ (let flop = map_Has control_in flops s some in subst (Has (sets_of others)) flop.2 (sets_have others [] flop.0 (among flop.0 flop.1)))
]

-- ---- two lists of the same control sets have one sum
abbrev pub set_sum : (Control → ℕ) → List Control → ℕ
set_sum f [] = 0
set_sum f (s ∷ sets) = f s + set_sum f sets

-- over the pairs of one control set
abbrev pairs : (Control → ℕ) → List Control → List Control → ℕ
pairs f [] others = 0
pairs f (s ∷ sets) others = total s (f s) others + pairs f sets others

both_ways : (s t : Bool) → (s ≡ true → t ≡ true) → (t ≡ true → s ≡ true) → s ≡ t
both_ways true t f g = sym (f refl)
both_ways false true f g = g refl
both_ways false false f g = refl

same_both : (a b : Control) → same_control a b ≡ same_control b a
same_both a b =
    both_ways (same_control a b) (same_control b a) (λ e. subst (λ (c : Control). same_control c a ≡ true) (same_control_is a b e) (same_control_self a))
    (λ e. subst (λ (c : Control). same_control c b ≡ true) (same_control_is b a e) (same_control_self b))

one_term : (f : Control → ℕ) (a b : Control) → cond (same_control a b) (f a) 0 ≡ cond (same_control b a) (f b) 0
one_term f a b = by (same_control a b) refl ∙ ap (λ x. cond x (f b) 0) (same_both a b)
  where
    by : (x : Bool) → same_control a b ≡ x → cond x (f a) 0 ≡ cond x (f b) 0
    by true e = ap f (same_control_is a b e)
    by false e = refl

pairs_none : (f : Control → ℕ) (sets : List Control) → pairs f sets [] ≡ 0
pairs_none f [] = refl
pairs_none f (s ∷ sets) = sym (nothing_before (pairs f sets [])) ∙ pairs_none f sets

pairs_more : (f : Control → ℕ) (sets : List Control) (b : Control) (others : List Control) → pairs f sets (b ∷ others) ≡ total b (f b) sets + pairs f sets others
pairs_more f [] b others = refl
pairs_more f (a ∷ sets) b others =
    (λ i. one_term f a b i + total a (f a) others + pairs_more f sets b others i)
    ∙ four (cond (same_control b a) (f b) 0) (total a (f a) others) (total b (f b) sets) (pairs f sets others)

pairs_both : (f : Control → ℕ) (sets others : List Control) → pairs f sets others ≡ pairs f others sets
pairs_both f sets [] = pairs_none f sets
pairs_both f sets (b ∷ others) = pairs_more f sets b others ∙ ap (λ n. total b (f b) sets + n) (pairs_both f sets others)

sum_pairs : (f : Control → ℕ) (sets others : List Control) → StandOnce others → ((s : Control) → Has sets s → Has others s) → set_sum f sets ≡ pairs f sets others
sum_pairs f [] others once among = refl
sum_pairs f (s ∷ sets) others once among =
    λ i. sym (hit_once s (f s) others once (among s (0, refl))) i + sum_pairs f sets others once (λ other has. among other (suc has.0, has.1)) i

same_sum : (f : Control → ℕ) (sets others : List Control) → StandOnce sets → StandOnce others → ((s : Control) → Has sets s → Has others s) → ((s : Control) → Has others s → Has sets s)
    → set_sum f sets ≡ set_sum f others
same_sum f sets others once other_once among back = sum_pairs f sets others other_once among ∙ pairs_both f sets others ∙ sym (sum_pairs f others sets once back)

-- ---- each control set has as many flip-flops in each order
filter_sum : {X : Type 0} (p : X → Bool) (xs : List X) → length (filter p xs) ≡ sum_by (λ x. one_if (p x)) xs
filter_sum p [] = refl
filter_sum p (x ∷ xs) = by (p x) ∙ ap (λ n. one_if (p x) + n) (filter_sum p xs) ∙ sym (sum_by-cons (λ y. one_if (p y)) x xs)
  where
    by : (b : Bool) → length (cond b (x ∷ filter p xs) (filter p xs)) ≡ one_if b + length (filter p xs)
    by true = omega arith
    by false = omega arith

pub as_many_cells : (flops others : List FlopCell) (s : Control) → IsPermutation flops others → length (cells_with others s) ≡ length (cells_with flops s)
as_many_cells flops others s moved =
    let p : FlopCell → Bool = λ (flop : FlopCell). same_control flop.1 s in
    length-map (filter p others) (λ (flop : FlopCell). flop.0) ∙ filter_sum p others ∙ sum_by-IsPermutation (λ (flop : FlopCell). one_if (p flop)) flops others moved ∙ sym (filter_sum p flops)
    ∙ sym (length-map (filter p flops) (λ (flop : FlopCell). flop.0))

same_terms : (f g : Control → ℕ) (sets : List Control) → ((s : Control) → f s ≡ g s) → set_sum f sets ≡ set_sum g sets
same_terms f g [] same = refl
same_terms f g (s ∷ sets) same = λ i. same s i + same_terms f g sets same i

-- what is summed of the numbers of cells of all control sets
pub same_in_order : (f : ℕ → ℕ) (flops others : List FlopCell) → IsPermutation flops others
    → set_sum (λ s. f (length (cells_with others s))) (sets_of others) ≡ set_sum (λ s. f (length (cells_with flops s))) (sets_of flops)
same_in_order f flops others moved =
    same_terms (λ s. f (length (cells_with others s))) (λ s. f (length (cells_with flops s))) (sets_of others) (λ s. ap f (as_many_cells flops others s moved))
    ∙ same_sum (λ s. f (length (cells_with flops s))) (sets_of others) (sets_of flops) (sets_once (map control_in others) [] none_once) (sets_once (map control_in flops) [] none_once)
    (λ s. sets_among others flops s (λ flop has. Has_permuted flops others flop moved has))
    (λ s. sets_among flops others s (λ flop has. Has_permuted others flops flop (IsPermutation-sym flops others moved) has))
