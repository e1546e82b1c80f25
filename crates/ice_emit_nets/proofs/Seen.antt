-- The sinks of a free cell, by the inputs before each.
use Rattle.std.proofs.Common.{◌≡◌, ℕ, ◌+◌, ◌<◌, ◌≤◌, length, take, drop, get_or, drop-cons, add-one, Bool, true, false, cond, Option, None, Some, List, [], ◌∷◌, ◌++◌, refl, ap, sym, ◌∙◌}
use Rattle.std.specs.Prelude.{◌||◌}
use Rattle.std.specs.List.{list_any}
use Rattle.std.proofs.lemmas.Bool.{eqb-true}
use Rattle.std.proofs.Math.ListN.{drop_of_length-le}
use Rattle.std.proofs.lemmas.List.{append_assoc, append-nil, take_more}
use Rattle.ice_base.specs.declared.number.WireNo.{WireNo}
use Rattle.ice_cells.specs.declared.root.Root.{Root}
use Rattle.ice_cells.specs.declared.root.Root.TheVariants.{PadIn, CellOut, GlobalOut, CarryOut}
use Rattle.ice_cells.specs.Same.{same_root, same_source}
use Rattle.ice_emit_nets.specs.Ends.{End, is_seen, free_ends}
use Rattle.ice_emit_nets.specs.Firsts.{first_end, first_ends}

same_is : (a b : Root) → same_root a b ≡ true → a ≡ b
same_is (PadIn j) (PadIn k) e = ap PadIn (eqb-true j k e)
same_is (PadIn j) (CellOut k) e = cc
same_is (PadIn j) (GlobalOut k) e = cc
same_is (PadIn j) (CarryOut k) e = cc
same_is (CellOut j) (PadIn k) e = cc
same_is (CellOut j) (CellOut k) e = ap CellOut (eqb-true j k e)
same_is (CellOut j) (GlobalOut k) e = cc
same_is (CellOut j) (CarryOut k) e = cc
same_is (GlobalOut j) (PadIn k) e = cc
same_is (GlobalOut j) (CellOut k) e = cc
same_is (GlobalOut j) (GlobalOut k) e = ap GlobalOut (eqb-true j k e)
same_is (GlobalOut j) (CarryOut k) e = cc
same_is (CarryOut j) (PadIn k) e = cc
same_is (CarryOut j) (CellOut k) e = cc
same_is (CarryOut j) (GlobalOut k) e = cc
same_is (CarryOut j) (CarryOut k) e = ap CarryOut (eqb-true j k e)

-- the inputs read what was seen
abbrev AreSeen : List Root → List (Option Root) → Type 0
AreSeen seen before = (root : Root) → is_seen seen root ≡ list_any (same_source (Some root)) before

any_behind : (p : Option Root → Bool) (before : List (Option Root)) (input : Option Root) → list_any p (before ++ input ∷ []) ≡ (list_any p before || p input)
any_behind p [] input = by (p input)
  where
    by : (b : Bool) → (b || false) ≡ (false || b)
    by true = refl
    by false = refl
any_behind p (x ∷ before) input = by (p x) (any_behind p before input)
  where
    by : (b : Bool) → list_any p (before ++ input ∷ []) ≡ (list_any p before || p input) → (b || list_any p (before ++ input ∷ [])) ≡ ((b || list_any p before) || p input)
    by true e = refl
    by false e = e

or_false : (b : Bool) → b ≡ (b || false)
or_false true = refl
or_false false = refl

or_swap : (a b : Bool) → (b || a) ≡ (a || b)
or_swap true true = refl
or_swap true false = refl
or_swap false true = refl
or_swap false false = refl

seen_none : (seen : List Root) (before : List (Option Root)) → AreSeen seen before → AreSeen seen (before ++ None ∷ [])
seen_none seen before are root = are root ∙ or_false (list_any (same_source (Some root)) before) ∙ sym (any_behind (same_source (Some root)) before None)

seen_new : (seen : List Root) (before : List (Option Root)) (new : Root) → AreSeen seen before → AreSeen (new ∷ seen) (before ++ Some new ∷ [])
seen_new seen before new are root =
    ap (λ b. same_root root new || b) (are root) ∙ or_swap (list_any (same_source (Some root)) before) (same_root root new)
    ∙ sym (any_behind (same_source (Some root)) before (Some new))

-- what was seen already makes no difference
seen_again : (seen : List Root) (before : List (Option Root)) (old : Root) → AreSeen seen before → is_seen seen old ≡ true → AreSeen seen (before ++ Some old ∷ [])
seen_again seen before old are e root = are root ∙ by (same_root root old) refl ∙ sym (any_behind (same_source (Some root)) before (Some old))
  where
    here : root ≡ old → list_any (same_source (Some root)) before ≡ true
    here same = sym (are root) ∙ ap (is_seen seen) same ∙ e

    holds : (b : Bool) → b ≡ true → b ≡ (b || true)
    holds true e = refl
    holds false e = e

    by : (b : Bool) → same_root root old ≡ b → list_any (same_source (Some root)) before ≡ (list_any (same_source (Some root)) before || b)
    by true same = holds (list_any (same_source (Some root)) before) (here (same_is root old same))
    by false other = or_false (list_any (same_source (Some root)) before)

free_from : (targets : List WireNo) (seen : List Root) (before : List (Option Root)) → AreSeen seen before → (ins : List (Option Root)) → first_ends targets before ins ≡ free_ends targets seen ins
free_from targets seen before are [] = refl
free_from targets seen before are (None ∷ ins) = free_from targets seen (before ++ None ∷ []) (seen_none seen before are) ins
free_from targets seen before are (Some root ∷ ins) =
    by (is_seen seen root) (are root) (λ e. free_from targets seen (before ++ Some root ∷ []) (seen_again seen before root are e) ins)
    (free_from targets (root ∷ seen) (before ++ Some root ∷ []) (seen_new seen before root are) ins) refl
  where
    by : (b : Bool) → b ≡ list_any (same_source (Some root)) before → (is_seen seen root ≡ true → first_ends targets (before ++ Some root ∷ []) ins ≡ free_ends targets seen ins)
        → first_ends targets (before ++ Some root ∷ []) ins ≡ free_ends targets (root ∷ seen) ins → is_seen seen root ≡ b
        → cond (list_any (same_source (Some root)) before) [] ((root, targets) ∷ []) ++ first_ends targets (before ++ Some root ∷ []) ins
        ≡ cond b (free_ends targets seen ins) ((root, targets) ∷ free_ends targets (root ∷ seen) ins)
    by true f again new e = ap (λ b. cond b [] ((root, targets) ∷ []) ++ first_ends targets (before ++ Some root ∷ []) ins) (sym f) ∙ again e
    by false f again new e = ap (λ b. cond b [] ((root, targets) ∷ []) ++ first_ends targets (before ++ Some root ∷ []) ins) (sym f) ∙ ap (λ xs. (root, targets) ∷ xs) new

-- the sinks of a free cell
pub free_are : (targets : List WireNo) (ins : List (Option Root)) (old new : List End) → new ≡ old ++ first_ends targets [] ins → new ≡ old ++ free_ends targets [] ins
free_are targets ins old new e = e ∙ ap (λ xs. old ++ xs) (free_from targets [] [] (λ root. refl) ins)

-- ---- the loop over the inputs
pub first_step : (targets : List WireNo) (ins : List (Option Root)) (k : ℕ) (old new whole : List End) → k < length ins → new ≡ old ++ first_end targets (take k ins) (get_or ins k None)
    → old ++ first_ends targets (take k ins) (drop k ins) ≡ whole → new ++ first_ends targets (take (k + 1) ins) (drop (k + 1) ins) ≡ whole
first_step targets ins k old new whole lt e inv =
    let x : Option Root = get_or ins k None in
    let more : take (k + 1) ins ≡ take k ins ++ x ∷ [] = take_more ins k None lt in
    let first : drop k ins ≡ x ∷ drop (k + 1) ins = drop-cons ins k None lt ∙ ap (λ n. x ∷ drop n ins) (sym (add-one k)) in
    ap (λ xs. xs ++ first_ends targets (take (k + 1) ins) (drop (k + 1) ins)) e
    ∙ append_assoc old (first_end targets (take k ins) x) (first_ends targets (take (k + 1) ins) (drop (k + 1) ins))
    ∙ ap (λ before. old ++ (first_end targets (take k ins) x ++ first_ends targets before (drop (k + 1) ins))) more
    ∙ ap (λ left. old ++ first_ends targets (take k ins) left) (sym first) ∙ inv

pub first_end_all : (targets : List WireNo) (ins : List (Option Root)) (k : ℕ) (new whole : List End) → length ins ≤ k → new ++ first_ends targets (take k ins) (drop k ins) ≡ whole → new ≡ whole
first_end_all targets ins k new whole le inv =
    sym (append-nil new) ∙ ap (λ left. new ++ first_ends targets (take k ins) left) (sym (drop_of_length-le ins {i = k} le)) ∙ inv
