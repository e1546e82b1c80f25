-- The levels that digits write, as they are added.
use Rattle.std.proofs.Common.{◌≡◌, ℕ, suc, ◌+◌, ◌*◌, ◌<◌, ◌≤◌, Bool, true, false, cond, List, [], ◌∷◌, ◌++◌, length, drop, map, get_or, Option, Some, None, refl, ap, sym, ◌∙◌, arith, append_assoc, append-nil, add-one, length-append, drop_of_length-le, eq-eqb}
use Rattle.std.proofs.lemmas.Option.{same_Some}
use Rattle.std.specs.Prelude.{option_map}
use Rattle.std.proofs.lemmas.List.{drop_more, length-map}
use Rattle.std.proofs.lemmas.Bool.{lt-ltb}
use Rattle.ice_base.specs.Lists.{all_known}
use Rattle.ice_sim_levels.specs.Steps.{steps_of}
use Rattle.ice_sim_levels.specs.LevelTexts.{digit_level, levels_and, word_levels}
use Rattle.ice_sim_levels.proofs.StepLists.{steps_more, suc_times}

onto : (levels : List Bool) (x : Bool) (o : Option (List Bool)) → levels_and levels (option_map (λ xs. x ∷ xs) o) ≡ levels_and (levels ++ x ∷ []) o
onto levels x None = refl
onto levels x (Some others) = ap Some (sym (append_assoc levels (x ∷ []) others))

-- one digit more
pub digit_added : (levels : List Bool) (word : List ℕ) (i d : ℕ) (x : Bool) → i < length word → digit_level (get_or word i d) ≡ Some x
    → levels_and levels (all_known (map digit_level (drop i word))) ≡ levels_and (levels ++ x ∷ []) (all_known (map digit_level (drop (i + 1) word)))
digit_added levels word i d x lt e = rw (drop_more word i d lt, e) (onto levels x (all_known (map digit_level (drop (i + 1) word))))

-- the same for a list that has the digit's level behind what it had
pub digits_more : (all : Option (List Bool)) (old new : List Bool) (word : List ℕ) (i d : ℕ) (x : Bool) → i < length word
    → all ≡ levels_and old (all_known (map digit_level (drop i word))) → new ≡ old ++ x ∷ [] → digit_level (get_or word i d) ≡ Some x
    → all ≡ levels_and new (all_known (map digit_level (drop (i + 1) word)))
digits_more all old new word i d x lt e pushed is =
    e ∙ digit_added old word i d x lt is ∙ ap (λ levels. levels_and levels (all_known (map digit_level (drop (i + 1) word)))) (sym pushed)

-- a word with another byte
pub digit_refused : (levels : List Bool) (word : List ℕ) (i d : ℕ) → i < length word → digit_level (get_or word i d) ≡ None
    → levels_and levels (all_known (map digit_level (drop i word))) ≡ None
digit_refused levels word i d lt e = rw (drop_more word i d lt, e) refl

-- the end of the word
pub digits_end : (levels : List Bool) (word : List ℕ) (i : ℕ) → length word ≤ i → levels_and levels (all_known (map digit_level (drop i word))) ≡ Some levels
digits_end levels word i le = rw (drop_of_length-le word le) (ap Some (append-nil levels))

together_long : (os : List (Option Bool)) (xs : List Bool) → all_known os ≡ Some xs → length xs ≡ length os
together_long [] xs e = let same : [] ≡ xs = cc in rw (← same) refl
together_long (None ∷ os) xs e = cc
together_long (Some x ∷ os) xs e = of (all_known os) refl e (λ ys f. together_long os ys f)
  where
    of : (o : Option (List Bool)) → all_known os ≡ o → option_map (λ ys. x ∷ ys) o ≡ Some xs → ((ys : List Bool) → all_known os ≡ Some ys → length ys ≡ length os) → length xs ≡ suc (length os)
    of None f g rec = cc
    of (Some ys) f g rec = let same : x ∷ ys ≡ xs = cc in rw (← same) (ap suc (rec ys f))

word_is : (ports : ℕ) (word : List ℕ) → 0 < ports → length word ≡ ports → word_levels ports word ≡ all_known (map digit_level word)
word_is ports word lt long = rw (lt-ltb 0 ports lt, eq-eqb (length word) ports long) refl

-- the step that a word of the right length says
pub step_said : (ports count : ℕ) (old new : List Bool) (word : List ℕ) (all : Bool) → length old ≡ count * ports → 0 < ports → length word ≡ ports
    → cond all (Some new) None ≡ levels_and old (all_known (map digit_level word))
    → cond all (Some (steps_of ports (count + 1) new)) None ≡ option_map (λ step. steps_of ports count old ++ step ∷ []) (word_levels ports word)
step_said ports count old new word all long some wide said =
    rw (word_is ports word some wide, add-one) (of (all_known (map digit_level word)) all refl said)
  where
    of : (o : Option (List Bool)) (all : Bool) → all_known (map digit_level word) ≡ o → cond all (Some new) None ≡ levels_and old o
        → cond all (Some (steps_of ports (suc count) new)) None ≡ option_map (λ step. steps_of ports count old ++ step ∷ []) o
    of None true e s = cc
    of None false e s = refl
    of (Some step) false e s = cc
    of (Some step) true e s =
        let is : new ≡ old ++ step = same_Some _ _ s in
        let width : length step ≡ ports = together_long (map digit_level word) step e ∙ length-map word digit_level ∙ wide in
        rw (is, steps_more ports count old step long width)

-- how long the levels are then
pub step_long : (ports count : ℕ) (old new : List Bool) (word : List ℕ) → length old ≡ count * ports → length word ≡ ports
    → Some new ≡ levels_and old (all_known (map digit_level word)) → length new ≡ (count + 1) * ports
step_long ports count old new word long wide said = of (all_known (map digit_level word)) refl said
  where
    of : (o : Option (List Bool)) → all_known (map digit_level word) ≡ o → Some new ≡ levels_and old o → length new ≡ (count + 1) * ports
    of None e s = cc
    of (Some step) e s =
        let is : new ≡ old ++ step = same_Some _ _ s in
        let width : length step ≡ ports = together_long (map digit_level word) step e ∙ length-map word digit_level ∙ wide in
        let f = suc_times count ports in
        rw (is, add-one) (omega (arith, length-append old step))
