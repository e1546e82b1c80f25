-- What ports get: different pads of the package, each with the wires that its port needs.
use Rattle.std.proofs.Common.{◌≡◌, ◌⊎◌, inl, inr, ℕ, zero, suc, ◌+◌, ◌<◌, Bool, true, false, not, ◌||◌, is_some, Option, None, Some, Ok, List, [], ◌∷◌, ◌++◌, length, length-append, slice_get, bytes_eq, if◌then◌else◌, unwrap_or, refl, sym, ap, subst, ◌∙◌, arith, add-one, true≢false}
use Rattle.std.specs.List.{find, list_any}
use Rattle.std.specs.Map.{lookup}
use Rattle.std.proofs.lemmas.Bool.{and_parts}
use Rattle.ice_base.proofs.Booleans.{not_true}
use Rattle.ice_net.specs.NetlistData.{NetlistData}
use Rattle.ice_chip.specs.Database.{Parts, same_pad}
use Rattle.ice_chip.specs.declared.rows.Pad.{Pad}
use Rattle.ice_chip.proofs.Keys.{pad_self}
use Rattle.ice_pads.specs.declared.want.Want.{Want}
use Rattle.ice_pads.specs.declared.given.Given.{Given}
use Rattle.ice_pads.specs.declared.given.Chosen.{Chosen}
use Rattle.ice_pads.specs.PadWires.{suits}
use Rattle.ice_pads.specs.Constraints.{of_port, of_pad, want_of}
use Rattle.ice_pads.specs.Ports.{is_free, is_fit, by_free, by_given, next_chosen, with_next, all_chosen}
use Rattle.ice_pads.proofs.Inversions.{bind_ok, ok_same, pushed_at}
use Rattle.ice_pads.proofs.GivenLaws.{AreGiven}

-- what the first ports got
pub record AreChosen (parts : Parts) (pads : List Pad) (wants : List Want) (given : List Given) (chosen : List Chosen) : Type 0 where
  pub suited : (k : ℕ) (c : Chosen) → slice_get chosen k ≡ Some c → suits parts (want_of wants k) c.pad ≡ true
  pub bonded : (k : ℕ) (c : Chosen) → slice_get chosen k ≡ Some c → list_any (same_pad c.pad) pads ≡ true
  pub of_given : (k : ℕ) (c : Chosen) (g : Given) → slice_get chosen k ≡ Some c → of_port given k ≡ Some g → c.pad ≡ g.pad
  pub of_free : (k : ℕ) (c : Chosen) → slice_get chosen k ≡ Some c → of_port given k ≡ None → of_pad given c.pad ≡ None
  pub apart : (j k : ℕ) (c e : Chosen) → slice_get chosen j ≡ Some c → slice_get chosen k ≡ Some e → c.pad ≡ e.pad → j ≡ k

pub none_chosen : (parts : Parts) (pads : List Pad) (wants : List Want) (given : List Given) → AreChosen parts pads wants given []
none_chosen parts pads wants given = record {
  suited = λ k c e. absurd (cc);
  bonded = λ k c e. absurd (cc);
  of_given = λ k c g e of. absurd (cc);
  of_free = λ k c e of. absurd (cc);
  apart = λ j k c e at be same. absurd (cc);
}

-- one more that meets all this, and whose pad no port before has
pub more_chosen : (parts : Parts) (pads : List Pad) (wants : List Want) (given : List Given) (chosen : List Chosen) (new : Chosen) → AreChosen parts pads wants given chosen
    → suits parts (want_of wants (length chosen)) new.pad ≡ true → list_any (same_pad new.pad) pads ≡ true
    → ((g : Given) → of_port given (length chosen) ≡ Some g → new.pad ≡ g.pad) → (of_port given (length chosen) ≡ None → of_pad given new.pad ≡ None)
    → ((k : ℕ) (c : Chosen) → slice_get chosen k ≡ Some c → c.pad ≡ new.pad → ⊥)
    → AreChosen parts pads wants given (chosen ++ new ∷ [])
more_chosen parts pads wants given chosen new are suited bonded of_given of_free apart = record {
  suited = λ k c e. suited_of k c (pushed_at chosen new k c e);
  bonded = λ k c e. bonded_of k c (pushed_at chosen new k c e);
  of_given = λ k c g e of. given_of k c g (pushed_at chosen new k c e) of;
  of_free = λ k c e of. free_of k c (pushed_at chosen new k c e) of;
  apart = λ j k c e at be same. apart_of j k c e (pushed_at chosen new j c at) (pushed_at chosen new k e be) same;
}
  where
    suited_of : (k : ℕ) (c : Chosen) → (slice_get chosen k ≡ Some c) ⊎ ((k ≡ length chosen) × (new ≡ c)) → suits parts (want_of wants k) c.pad ≡ true
    suited_of k c (inl old) = are.suited k c old
    suited_of k c (inr last) = ap (λ j. suits parts (want_of wants j) c.pad) last.0 ∙ ap (λ (x : Chosen). suits parts (want_of wants (length chosen)) x.pad) (sym last.1) ∙ suited

    bonded_of : (k : ℕ) (c : Chosen) → (slice_get chosen k ≡ Some c) ⊎ ((k ≡ length chosen) × (new ≡ c)) → list_any (same_pad c.pad) pads ≡ true
    bonded_of k c (inl old) = are.bonded k c old
    bonded_of k c (inr last) = ap (λ (x : Chosen). list_any (same_pad x.pad) pads) (sym last.1) ∙ bonded

    given_of : (k : ℕ) (c : Chosen) (g : Given) → (slice_get chosen k ≡ Some c) ⊎ ((k ≡ length chosen) × (new ≡ c)) → of_port given k ≡ Some g → c.pad ≡ g.pad
    given_of k c g (inl old) of = are.of_given k c g old of
    given_of k c g (inr last) of = ap (λ (x : Chosen). x.pad) (sym last.1) ∙ of_given g (ap (of_port given) (sym last.0) ∙ of)

    free_of : (k : ℕ) (c : Chosen) → (slice_get chosen k ≡ Some c) ⊎ ((k ≡ length chosen) × (new ≡ c)) → of_port given k ≡ None → of_pad given c.pad ≡ None
    free_of k c (inl old) of = are.of_free k c old of
    free_of k c (inr last) of = ap (λ (x : Chosen). of_pad given x.pad) (sym last.1) ∙ of_free (ap (of_port given) (sym last.0) ∙ of)

    apart_of : (j k : ℕ) (c e : Chosen) → (slice_get chosen j ≡ Some c) ⊎ ((j ≡ length chosen) × (new ≡ c)) → (slice_get chosen k ≡ Some e) ⊎ ((k ≡ length chosen) × (new ≡ e)) → c.pad ≡ e.pad → j ≡ k
    apart_of j k c e (inl at) (inl be) same = are.apart j k c e at be same
    apart_of j k c e (inl at) (inr last) same = absurd (apart j c at (same ∙ ap (λ (x : Chosen). x.pad) (sym last.1)))
    apart_of j k c e (inr last) (inl be) same = absurd (apart k e be (sym same ∙ ap (λ (x : Chosen). x.pad) (sym last.1)))
    apart_of j k c e (inr last) (inr end) same = last.0 ∙ sym end.0

-- ---- the next port
-- the first that passes a test passes it, and is of the list
found : {A : Type 0} (p : A → Bool) (xs : List A) (x : A) → find p xs ≡ Some x → p x ≡ true
found p [] x e = absurd (cc)
found p (y ∷ xs) x e = by (p y) refl (found p xs x) e
  where
    by : (b : Bool) → p y ≡ b → (find p xs ≡ Some x → p x ≡ true) → (if b then Some y else find p xs) ≡ Some x → p x ≡ true
    by true is later e = let same : y ≡ x = cc in ap p (sym same) ∙ is
    by false is later e = later e

found_in : (p : Pad → Bool) (xs : List Pad) (x : Pad) → find p xs ≡ Some x → list_any (same_pad x) xs ≡ true
found_in p [] x e = absurd (cc)
found_in p (y ∷ xs) x e = by (p y) (found_in p xs x) e
  where
    with_any : (b : Bool) → list_any (same_pad x) xs ≡ true → (b || list_any (same_pad x) xs) ≡ true
    with_any true any = refl
    with_any false any = any

    by : (b : Bool) → (find p xs ≡ Some x → list_any (same_pad x) xs ≡ true) → (if b then Some y else find p xs) ≡ Some x → (same_pad x y || list_any (same_pad x) xs) ≡ true
    by true later e = let same : y ≡ x = cc in ap (λ b. b || list_any (same_pad x) xs) (ap (same_pad x) same ∙ pad_self x)
    by false later e = with_any (same_pad x y) (later e)

-- an item that a test passes is among those that some pass
passes : (p : Chosen → Bool) (xs : List Chosen) (k : ℕ) (c : Chosen) → slice_get xs k ≡ Some c → list_any p xs ≡ false → p c ≡ false
passes p [] k c at none = absurd (cc)
passes p (x ∷ xs) zero c at none = by (p x) refl none
  where
    by : (b : Bool) → p x ≡ b → (b || list_any p xs) ≡ false → p c ≡ false
    by true is e = absurd (true≢false e)
    by false is e = let same : x ≡ c = cc in ap p (sym same) ∙ is
passes p (x ∷ xs) (suc k) c at none = by (p x) (passes p xs k c at) none
  where
    by : (b : Bool) → (list_any p xs ≡ false → p c ≡ false) → (b || list_any p xs) ≡ false → p c ≡ false
    by true later e = absurd (true≢false e)
    by false later e = later e

no_value : {A : Type 0} (o : Option A) → is_some o ≡ false → o ≡ None
no_value None e = refl
no_value (Some x) e = absurd (true≢false e)

within : {A : Type 0} (xs : List A) (k : ℕ) (x : A) → slice_get xs k ≡ Some x → k < length xs
within [] k x e = absurd (cc)
within (y ∷ xs) zero x e = omega arith
within (y ∷ xs) (suc k) x e = let lt : k < length xs = within xs k x e in omega arith

abbrev pub chosen_for : Want → Given → Chosen
chosen_for want g = record { pad = g.pad; pullup = unwrap_or g.pullup want.pullup }

abbrev chosen_free : Want → Pad → Chosen
chosen_free want pad = record { pad = pad; pullup = want.pullup }

-- two ports to which constraints give one pad are one
one_holder : (parts : Parts) (pins : List (List ℕ × Pad)) (wants : List Want) (given : List Given) (j k : ℕ) (g h : Given) → AreGiven parts pins wants given → of_port given j ≡ Some g → of_port given k ≡ Some h → g.pad ≡ h.pad → j ≡ k
one_holder parts pins wants given j k g h gives of be same =
    let one = gives.holder j g of in
    let two = gives.holder k h be in
    let found : Some one.0 ≡ Some two.0 = sym one.1 ∙ ap (of_pad given) same ∙ two.1 in
    let holder : one.0 ≡ two.0 = cc in
    sym one.2 ∙ ap (λ (x : Given). x.port) holder ∙ two.2

-- a pad that a constraint gives to a port is not one that another port has
given_apart : (parts : Parts) (pins : List (List ℕ × Pad)) (pads : List Pad) (wants : List Want) (given : List Given) (chosen : List Chosen) (g : Given) (k : ℕ) (c : Chosen) (o : Option Given)
    → AreGiven parts pins wants given → AreChosen parts pads wants given chosen → of_port given (length chosen) ≡ Some g → slice_get chosen k ≡ Some c → c.pad ≡ g.pad → of_port given k ≡ o → ⊥
given_apart parts pins pads wants given chosen g k c (Some h) gives are of at same be =
    let e : k ≡ length chosen = one_holder parts pins wants given k (length chosen) h g gives be of (sym (are.of_given k c h at be) ∙ same) in
    let lt : k < length chosen = within chosen k c at in
    omega arith
given_apart parts pins pads wants given chosen g k c None gives are of at same be =
    let holder = gives.holder (length chosen) g of in
    let clash : None ≡ Some holder.0 = sym (are.of_free k c at be) ∙ ap (of_pad given) same ∙ holder.1 in
    absurd (cc)

next_given : (parts : Parts) (pins : List (List ℕ × Pad)) (pads : List Pad) (wants : List Want) (given : List Given) (chosen : List Chosen) (want : Want) (g : Given)
    → AreGiven parts pins wants given → AreChosen parts pads wants given chosen
    → ((pin : List ℕ) (pad : Pad) → lookup (bytes_eq pin) pins ≡ Some pad → list_any (same_pad pad) pads ≡ true)
    → of_port given (length chosen) ≡ Some g → AreChosen parts pads wants given (chosen ++ chosen_for want g ∷ [])
next_given parts pins pads wants given chosen want g gives are all of =
    let pin = gives.bonded (length chosen) g of in
    more_chosen parts pads wants given chosen (chosen_for want g) are
    (gives.suited (length chosen) g of)
    (all pin.0 g.pad pin.1)
    (λ h be. let found : Some g ≡ Some h = sym of ∙ be in let same : g ≡ h = cc in ap (λ (x : Given). x.pad) same)
    (λ none. let clash : None ≡ Some g = sym none ∙ of in absurd (cc))
    (λ k c at same. given_apart parts pins pads wants given chosen g k c (of_port given k) gives are of at same refl)

next_free : (parts : Parts) (pads : List Pad) (wants : List Want) (given : List Given) (chosen : List Chosen) (want : Want) (pad : Pad)
    → AreChosen parts pads wants given chosen → want_of wants (length chosen) ≡ want → of_port given (length chosen) ≡ None → find (is_fit parts given chosen want) pads ≡ Some pad
    → AreChosen parts pads wants given (chosen ++ chosen_free want pad ∷ [])
next_free parts pads wants given chosen want pad are wanted of fit =
    let fits = and_parts (is_free given chosen pad) (suits parts want pad) (found (is_fit parts given chosen want) pads pad fit) in
    let free = and_parts (not (is_some (of_pad given pad))) (not (list_any (λ (c : Chosen). same_pad pad c.pad) chosen)) fits.0 in
    let none = no_value (of_pad given pad) (not_true (is_some (of_pad given pad)) free.0) in
    let nowhere = not_true (list_any (λ (c : Chosen). same_pad pad c.pad) chosen) free.1 in
    more_chosen parts pads wants given chosen (chosen_free want pad) are
    (ap (λ w. suits parts w pad) wanted ∙ fits.1)
    (found_in (is_fit parts given chosen want) pads pad fit)
    (λ h be. let clash : None ≡ Some h = sym of ∙ be in absurd (cc))
    (λ is. none)
    (λ k c at same. true≢false (sym (pad_self pad) ∙ ap (same_pad pad) (sym same) ∙ passes (λ (d : Chosen). same_pad pad d.pad) chosen k c at nowhere))

next_is : (parts : Parts) (pins : List (List ℕ × Pad)) (pads : List Pad) (n : NetlistData) (wants : List Want) (given : List Given) (chosen : List Chosen) (want : Want) (new : Chosen) (o : Option Given)
    → AreGiven parts pins wants given → AreChosen parts pads wants given chosen → want_of wants (length chosen) ≡ want
    → ((pin : List ℕ) (pad : Pad) → lookup (bytes_eq pin) pins ≡ Some pad → list_any (same_pad pad) pads ≡ true)
    → of_port given (length chosen) ≡ o → by_given parts pads n given chosen (length chosen) want o ≡ Ok new → AreChosen parts pads wants given (chosen ++ new ∷ [])
next_is parts pins pads n wants given chosen want new (Some g) gives are wanted all of e =
    let same : chosen_for want g ≡ new = cc in
    subst (λ c. AreChosen parts pads wants given (chosen ++ c ∷ [])) same (next_given parts pins pads wants given chosen want g gives are all of)
next_is parts pins pads n wants given chosen want new None gives are wanted all of e = by (find (is_fit parts given chosen want) pads) refl e
  where
    by : (o : Option Pad) → find (is_fit parts given chosen want) pads ≡ o → by_free n (length chosen) want o ≡ Ok new → AreChosen parts pads wants given (chosen ++ new ∷ [])
    by None is e = absurd (cc)
    by (Some pad) is e =
        let same : chosen_free want pad ≡ new = cc in
        subst (λ c. AreChosen parts pads wants given (chosen ++ c ∷ [])) same (next_free parts pads wants given chosen want pad are wanted of is)

-- ---- all ports
abbrev pub AreWanted : List Want → ℕ → List Want → Type 0
AreWanted wants count left = (i : ℕ) → want_of wants (count + i) ≡ want_of left i

pub all_are : (parts : Parts) (pins : List (List ℕ × Pad)) (pads : List Pad) (n : NetlistData) (wants : List Want) (given : List Given) (chosen : List Chosen) (left : List Want) (out : List Chosen)
    → AreGiven parts pins wants given → AreChosen parts pads wants given chosen → AreWanted wants (length chosen) left
    → ((pin : List ℕ) (pad : Pad) → lookup (bytes_eq pin) pins ≡ Some pad → list_any (same_pad pad) pads ≡ true)
    → all_chosen parts pads n given chosen left ≡ Ok out → AreChosen parts pads wants given out × (length out ≡ length chosen + length left)
all_are parts pins pads n wants given chosen [] out gives are wanted all e =
    let same : chosen ≡ out = cc in
    (subst (AreChosen parts pads wants given) same are, ap length (sym same) ∙ omega arith)
all_are parts pins pads n wants given chosen (want ∷ left) out gives are wanted all e =
    let step = bind_ok (with_next chosen (next_chosen parts pads n given chosen want)) (λ more. all_chosen parts pads n given more left) out e in
    let next = bind_ok (next_chosen parts pads n given chosen want) (λ c. Ok (chosen ++ c ∷ [])) step.0 step.1 in
    let same : chosen ++ next.0 ∷ [] ≡ step.0 = ok_same (chosen ++ next.0 ∷ []) step.0 (Ok (chosen ++ next.0 ∷ [])) (Ok step.0) refl refl next.2 in
    let zero_more : length chosen ≡ length chosen + 0 = omega arith in
    let first : want_of wants (length chosen) ≡ want = ap (want_of wants) zero_more ∙ wanted 0 in
    let more = subst (AreChosen parts pads wants given) same (next_is parts pins pads n wants given chosen want next.0 (of_port given (length chosen)) gives are first all refl next.1) in
    let long : length step.0 ≡ length chosen + 1 = ap length (sym same) ∙ length-append chosen (next.0 ∷ []) in
    let rest = all_are parts pins pads n wants given step.0 left out gives more (λ i. let place : length step.0 + i ≡ length chosen + (i + 1) = omega arith in ap (want_of wants) place ∙ wanted (i + 1) ∙ ap (want_of (want ∷ left)) (add-one i)) all step.2 in
    (rest.0, let e : length out ≡ length step.0 + length left = rest.1 in omega arith)
