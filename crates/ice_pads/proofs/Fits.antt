-- The first pad that fits, from a starting place on.
use Rattle.std.proofs.Common.{◌≡◌, ◌≢◌, ℕ, zero, suc, ◌+◌, ◌<◌, ◌≤◌, ◌==◌, Bool, true, false, not, ◌&&◌, ◌||◌, List, [], ◌∷◌, ◌++◌, length, take, None, Some, is_some, get_or, slice_get, set, if◌then◌else◌, refl, sym, ap, subst, ◌∙◌, arith, true≢false, get_or-set_same, get_or-set_other, rules, tests}
use Rattle.std.specs.List.{find, list_any}
use Rattle.std.proofs.lemmas.Bool.{eqb-true}
use Rattle.std.proofs.lemmas.List.{take_all}
use Rattle.std.proofs.lemmas.List.Folds.{list_any-append, list_any_more}
use Rattle.std.proofs.lemmas.Option.{slice_get-get_or}
use Rattle.ice_chip.specs.Database.{Parts, same_pad}
use Rattle.ice_chip.specs.Names.{output_enable_name}
use Rattle.ice_chip.specs.declared.rows.Pad.{Pad}
use Rattle.ice_chip_sockets.specs.Sockets.{has_io_wire, gives, is_driven}
use Rattle.ice_pads.specs.PadWires.{suits}
use Rattle.ice_pads.specs.declared.want.Want.{Want}
use Rattle.ice_pads.specs.declared.given.Given.{Given}
use Rattle.ice_pads.specs.declared.given.Chosen.{Chosen}
use Rattle.ice_pads.specs.Constraints.{of_pad}
use Rattle.ice_pads.specs.Ports.{is_free, is_fit}
use Rattle.ice_pads.specs.Tables.{kind_of, ArePassed}

-- ---- first items that pass a test
pub found_at : {A : Type 0} (p : A → Bool) (xs : List A) (i : ℕ) (d : A) → i < length xs → list_any p (take i xs) ≡ false → p (get_or xs i d) ≡ true → find p xs ≡ Some (get_or xs i d)
found_at p [] i d lt before here = absurd (omega arith)
found_at p (x ∷ xs) zero d lt before here = ap (λ b. if b then Some x else find p xs) here
found_at p (x ∷ xs) (suc i) d lt before here = by (p x) (λ e. found_at p xs i d (omega arith) e here) before
  where
    by : (b : Bool) → (list_any p (take i xs) ≡ false → find p xs ≡ Some (get_or xs i d)) → (b || list_any p (take i xs)) ≡ false → (if b then Some x else find p xs) ≡ Some (get_or xs i d)
    by true later e = absurd (true≢false e)
    by false later e = later e

pub found_none : {A : Type 0} (p : A → Bool) (xs : List A) → list_any p xs ≡ false → find p xs ≡ None
found_none p [] e = refl
found_none p (x ∷ xs) e = by (p x) (found_none p xs) e
  where
    by : (b : Bool) → (list_any p xs ≡ false → find p xs ≡ None) → (b || list_any p xs) ≡ false → (if b then Some x else find p xs) ≡ None
    by true later f = absurd (true≢false f)
    by false later f = later f

-- none of those before passes, nor does this one
pub one_further : {A : Type 0} (p : A → Bool) (xs : List A) (i : ℕ) (d : A) → i < length xs → list_any p (take i xs) ≡ false → p (get_or xs i d) ≡ false → list_any p (take (i + 1) xs) ≡ false
one_further p xs i d lt before here = list_any_more p xs i d lt ∙ ap (λ b. b || p (get_or xs i d)) before ∙ here

-- the place of the first that passes
pub place_found : {A : Type 0} (p : A → Bool) (xs : List A) (i : ℕ) (d : A) → i < length xs → list_any p (take i xs) ≡ false → p (get_or xs i d) ≡ true → slice_get xs i ≡ find p xs
place_found p xs i d lt before here = slice_get-get_or xs i d lt ∙ sym (found_at p xs i d lt before here)

pub none_found : {A : Type 0} (p : A → Bool) (xs : List A) (i : ℕ) → length xs ≤ i → list_any p (take i xs) ≡ false → None ≡ find p xs
none_found p xs i le before = sym (found_none p xs (ap (list_any p) (sym (take_all i xs le)) ∙ before))

-- what passes a test passes the other
pub none_passes : {A : Type 0} (p q : A → Bool) → ((x : A) → p x ≡ false → q x ≡ false) → (xs : List A) → list_any p xs ≡ false → list_any q xs ≡ false
none_passes p q weaker [] e = refl
none_passes p q weaker (x ∷ xs) e = by (p x) refl (none_passes p q weaker xs) e
  where
    by : (b : Bool) → p x ≡ b → (list_any p xs ≡ false → list_any q xs ≡ false) → (b || list_any p xs) ≡ false → (q x || list_any q xs) ≡ false
    by true is later f = absurd (true≢false f)
    by false is later f = ap (λ b. b || list_any q xs) (weaker x is) ∙ later f

-- ---- one more port
fewer : (a b c s : Bool) → ((a && not b) && s) ≡ false → ((a && not (b || c)) && s) ≡ false
fewer false b c s e = refl
fewer true true c s e = refl
fewer true false true s e = refl
fewer true false false s e = e

fits_less : (parts : Parts) (given : List Given) (chosen : List Chosen) (c : Chosen) (want : Want) (pad : Pad) → is_fit parts given chosen want pad ≡ false → is_fit parts given (chosen ++ c ∷ []) want pad ≡ false
fits_less parts given chosen c want pad e =
    ap (λ b. (not (is_some (of_pad given pad)) && not b) && suits parts want pad) (list_any-append (λ (d : Chosen). same_pad pad d.pad) chosen (c ∷ []))
    ∙ fewer (not (is_some (of_pad given pad))) (list_any (λ (d : Chosen). same_pad pad d.pad) chosen) (list_any (λ (d : Chosen). same_pad pad d.pad) (c ∷ [])) (suits parts want pad) e

pub still_passed : (parts : Parts) (pads : List Pad) (given : List Given) (chosen : List Chosen) (starts : List ℕ) (c : Chosen) → ArePassed parts pads given chosen starts → ArePassed parts pads given (chosen ++ c ∷ []) starts
still_passed parts pads given chosen starts c passed want =
    none_passes (is_fit parts given chosen want) (is_fit parts given (chosen ++ c ∷ []) want) (fits_less parts given chosen c want) (take (get_or starts (kind_of want) 0) pads) (passed want)

-- ---- a starting place that is moved
abbrev first_bit : ℕ → Bool
first_bit k = (k == 1) || (k == 3) || (k == 5) || (k == 7)

abbrev second_bit : ℕ → Bool
second_bit k = (k == 2) || (k == 3) || (k == 6) || (k == 7)

abbrev third_bit : ℕ → Bool
third_bit k = (k == 4) || (k == 5) || (k == 6) || (k == 7)

firsts : (a b c : Bool) → first_bit ((if a then 1 else 0) + (if b then 2 else 0) + (if c then 4 else 0)) ≡ a
firsts true true true = refl
firsts true true false = refl
firsts true false true = refl
firsts true false false = refl
firsts false true true = refl
firsts false true false = refl
firsts false false true = refl
firsts false false false = refl

seconds : (a b c : Bool) → second_bit ((if a then 1 else 0) + (if b then 2 else 0) + (if c then 4 else 0)) ≡ b
seconds true true true = refl
seconds true true false = refl
seconds true false true = refl
seconds true false false = refl
seconds false true true = refl
seconds false true false = refl
seconds false false true = refl
seconds false false false = refl

thirds : (a b c : Bool) → third_bit ((if a then 1 else 0) + (if b then 2 else 0) + (if c then 4 else 0)) ≡ c
thirds true true true = refl
thirds true true false = refl
thirds true false true = refl
thirds true false false = refl
thirds false true true = refl
thirds false true false = refl
thirds false false true = refl
thirds false false false = refl

-- wants of one number need the same wires
same_wires : (parts : Parts) (v w : Want) (pad : Pad) → kind_of v ≡ kind_of w → suits parts v pad ≡ suits parts w pad
same_wires parts v w pad e =
    ap (λ b. ((not b || gives parts pad) && (not v.output || is_driven parts pad)) && (not v.enable || has_io_wire parts pad.tile (output_enable_name pad.pio)))
    (sym (firsts v.input v.output v.enable) ∙ ap first_bit e ∙ firsts w.input w.output w.enable)
    ∙ ap (λ b. ((not w.input || gives parts pad) && (not b || is_driven parts pad)) && (not v.enable || has_io_wire parts pad.tile (output_enable_name pad.pio)))
    (sym (seconds v.input v.output v.enable) ∙ ap second_bit e ∙ seconds w.input w.output w.enable)
    ∙ ap (λ b. ((not w.input || gives parts pad) && (not w.output || is_driven parts pad)) && (not b || has_io_wire parts pad.tile (output_enable_name pad.pio)))
    (sym (thirds v.input v.output v.enable) ∙ ap third_bit e ∙ thirds w.input w.output w.enable)

pub moved_passed : (parts : Parts) (pads : List Pad) (given : List Given) (chosen : List Chosen) (starts : List ℕ) (v : Want) (place : ℕ) → ArePassed parts pads given chosen starts → kind_of v < length starts
    → list_any (is_fit parts given chosen v) (take place pads) ≡ false → ArePassed parts pads given chosen (set starts (kind_of v) place)
moved_passed parts pads given chosen starts v place passed lt before want = by (kind_of v == kind_of want) refl
  where
    by : (b : Bool) → (kind_of v == kind_of want) ≡ b → list_any (is_fit parts given chosen want) (take (get_or (set starts (kind_of v) place) (kind_of want) 0) pads) ≡ false
    by true e =
        let same : kind_of v ≡ kind_of want = eqb-true (kind_of v) (kind_of want) e in
        ap (λ k. list_any (is_fit parts given chosen want) (take (get_or (set starts (kind_of v) place) k 0) pads)) (sym same)
        ∙ ap (λ k. list_any (is_fit parts given chosen want) (take k pads)) (get_or-set_same starts (kind_of v) place 0 lt)
        ∙ none_passes (is_fit parts given chosen v) (is_fit parts given chosen want) (λ pad is. ap (λ b. is_free given chosen pad && b) (sym (same_wires parts v want pad same)) ∙ is) (take place pads) before
    by false e =
        let apart : kind_of want ≢ kind_of v = search (rules, tests) in
        ap (λ k. list_any (is_fit parts given chosen want) (take k pads)) (get_or-set_other starts (kind_of v) (kind_of want) place 0 apart) ∙ passed want

-- ---- one more port, in lists that are known by equations
pub passed_still : (parts : Parts) (pads : List Pad) (given : List Given) (chosen more : List Chosen) (c : Chosen) (starts now : List ℕ) → more ≡ chosen ++ c ∷ [] → now ≡ starts → ArePassed parts pads given chosen starts → ArePassed parts pads given more now
passed_still parts pads given chosen more c starts now added same passed =
    subst (λ (xs : List Chosen). ArePassed parts pads given xs now) (sym added)
    (subst (λ (ns : List ℕ). ArePassed parts pads given (chosen ++ c ∷ []) ns) (sym same) (still_passed parts pads given chosen starts c passed))

pub passed_after : (parts : Parts) (pads : List Pad) (given : List Given) (chosen more : List Chosen) (c : Chosen) (starts now : List ℕ) (v : Want) (place : ℕ) → more ≡ chosen ++ c ∷ [] → now ≡ set starts (kind_of v) place
    → ArePassed parts pads given chosen starts → kind_of v < length starts → list_any (is_fit parts given chosen v) (take place pads) ≡ false → ArePassed parts pads given more now
passed_after parts pads given chosen more c starts now v place added moved passed lt before =
    passed_still parts pads given chosen more c (set starts (kind_of v) place) now added moved (moved_passed parts pads given chosen starts v place passed lt before)
