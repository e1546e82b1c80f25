-- The first of all lines of uses that clash.
use Rattle.std.proofs.Common.{◌≡◌, ℕ, Bool, true, false, None, Some, List, [], ◌∷◌, ◌++◌, fold, refl, sym, ap, subst, ◌∙◌, inl, inr, append_assoc, arith}
use Rattle.std.specs.Prelude.{◌⊎◌}
use Rattle.std.proofs.lemmas.Grind.{common_steps}
use Rattle.ice_chip.specs.FirstShared.{AreShared, AreFirstShared}
use Rattle.ice_chip.specs.SharedFunction.{clash, two_lines, clashes_with, clashes, precedes, first_of}
use Rattle.ice_chip.specs.declared.uses.BitUse.{BitUse}

-- ---- the order of lines
not_self : (p : ℕ × ℕ) → precedes p p ≡ false
not_self (a, b) = grind (arith, common_steps)

not_behind : (p q r : ℕ × ℕ) → precedes p q ≡ true → precedes p r ≡ false → precedes q r ≡ false
not_behind (a, b) (c, d) (e, f) before not = grind (arith, common_steps)

not_before : (p q r : ℕ × ℕ) → precedes p q ≡ false → precedes q r ≡ false → precedes p r ≡ false
not_before (a, b) (c, d) (e, f) not nor = grind (arith, common_steps)

-- ---- what is in a list
abbrev pub IsIn : {A : Type 0} → A → List A → Type 0
IsIn x [] = ⊥
IsIn x (y ∷ ys) = (x ≡ y) ⊎ IsIn x ys

in_parts : {A : Type 0} (x : A) (xs ys : List A) → IsIn x (xs ++ ys) → IsIn x xs ⊎ IsIn x ys
in_parts x [] ys is = inr is
in_parts x (z ∷ xs) ys (inl e) = inl (inl e)
in_parts x (z ∷ xs) ys (inr is) = deeper (in_parts x xs ys is)
  where
    deeper : IsIn x xs ⊎ IsIn x ys → ((x ≡ z) ⊎ IsIn x xs) ⊎ IsIn x ys
    deeper (inl there) = inl (inr there)
    deeper (inr behind) = inr behind

in_left : {A : Type 0} (x : A) (xs ys : List A) → IsIn x xs → IsIn x (xs ++ ys)
in_left x [] ys is = absurd is
in_left x (z ∷ xs) ys (inl e) = inl e
in_left x (z ∷ xs) ys (inr is) = inr (in_left x xs ys is)

in_right : {A : Type 0} (x : A) (xs ys : List A) → IsIn x ys → IsIn x (xs ++ ys)
in_right x [] ys is = is
in_right x (z ∷ xs) ys is = inr (in_right x xs ys is)

-- where it stands
record StandsBetween {A : Type 0} (x : A) (xs : List A) : Type 0 where
  front : List A
  rest : List A
  is : xs ≡ front ++ x ∷ rest

stands_in : {A : Type 0} (x : A) (xs : List A) → IsIn x xs → StandsBetween x xs
stands_in x [] is = absurd is
stands_in x (y ∷ ys) (inl e) = record { front = []; rest = ys; is = ap (λ z. z ∷ ys) (sym e) }
stands_in x (y ∷ ys) (inr is) =
    let s = stands_in x ys is in
    record { front = y ∷ s.front; rest = s.rest; is = ap (λ zs. y ∷ zs) s.is }

-- ---- the first of a list of lines
record HasFirst (q : ℕ × ℕ) (ps : List (ℕ × ℕ)) : Type 0 where
  first : ℕ × ℕ
  is : fold first_of (Some q) ps ≡ Some first
  among : (first ≡ q) ⊎ IsIn first ps
  begin : precedes q first ≡ false
  others : (x : ℕ × ℕ) → IsIn x ps → precedes x first ≡ false

has_first : (q : ℕ × ℕ) (ps : List (ℕ × ℕ)) → HasFirst q ps
has_first q [] = record { first = q; is = refl; among = inl refl; begin = not_self q; others = λ x is. absurd is }
has_first q (p ∷ ps) = by_order (precedes p q) refl (has_first p ps) (has_first q ps)
  where
    by_order : (b : Bool) → precedes p q ≡ b → HasFirst p ps → HasFirst q ps → HasFirst q (p ∷ ps)
    by_order true before from_p from_q = record {
      first = from_p.first;
      is = rw before from_p.is;
      among = inr from_p.among;
      begin = not_behind p q from_p.first before from_p.begin;
      others = λ x is. elim is [ inl e ↦ ap (λ y. precedes y from_p.first) e ∙ from_p.begin | inr there ↦ from_p.others x there ];
    }
    by_order false not from_p from_q = record {
      first = from_q.first;
      is = rw not from_q.is;
      among = elim from_q.among [ inl e ↦ inl e | inr there ↦ inr (inr there) ];
      begin = from_q.begin;
      others = λ x is. elim is [ inl e ↦ ap (λ y. precedes y from_q.first) e ∙ not_before p q from_q.first not from_q.begin | inr there ↦ from_q.others x there ];
    }

-- ---- which lines are those of uses that clash
record Meets (u : BitUse) (vs : List BitUse) (lines : ℕ × ℕ) : Type 0 where
  other : BitUse
  there : IsIn other vs
  clashing : clash u other ≡ true
  on_lines : lines ≡ two_lines u.line other.line

meets_more : (u v : BitUse) (vs : List BitUse) (lines : ℕ × ℕ) → Meets u vs lines → Meets u (v ∷ vs) lines
meets_more u v vs lines m = record { other = m.other; there = inr m.there; clashing = m.clashing; on_lines = m.on_lines }

meets : (u : BitUse) (vs : List BitUse) (lines : ℕ × ℕ) → IsIn lines (clashes_with u vs) → Meets u vs lines
meets u [] lines is = absurd is
meets u (v ∷ vs) lines is = by_clash (clash u v) refl (meets u vs lines) is
  where
    by_clash : (b : Bool) → clash u v ≡ b → (IsIn lines (clashes_with u vs) → Meets u vs lines) → IsIn lines (clashes_with u (v ∷ vs)) → Meets u (v ∷ vs) lines
    by_clash true clashing more is = here (rw clashing at is)
      where
        here : IsIn lines (two_lines u.line v.line ∷ clashes_with u vs) → Meets u (v ∷ vs) lines
        here (inl e) = record { other = v; there = inl refl; clashing = clashing; on_lines = e }
        here (inr behind) = meets_more u v vs lines (more behind)
    by_clash false not more is = meets_more u v vs lines (more (rw not at is))

met : (u other : BitUse) (vs : List BitUse) → IsIn other vs → clash u other ≡ true → IsIn (two_lines u.line other.line) (clashes_with u vs)
met u other [] is clashing = absurd is
met u other (v ∷ vs) (inl e) clashing =
    let here : clash u v ≡ true = ap (clash u) (sym e) ∙ clashing in
    rw here (inl (ap (λ w. two_lines u.line w.line) e))
met u other (v ∷ vs) (inr is) clashing = by_clash (clash u v) refl (met u other vs is clashing)
  where
    by_clash : (b : Bool) → clash u v ≡ b → IsIn (two_lines u.line other.line) (clashes_with u vs) → IsIn (two_lines u.line other.line) (clashes_with u (v ∷ vs))
    by_clash true here more = rw here (inr more)
    by_clash false not more = rw not more

-- a use of the list clashes with one before it
record Clashes (before us : List BitUse) (lines : ℕ × ℕ) : Type 0 where
  front : List BitUse
  later : BitUse
  rest : List BitUse
  stands : us ≡ front ++ later ∷ rest
  earlier : BitUse
  there : IsIn earlier front ⊎ IsIn earlier before
  clashing : clash later earlier ≡ true
  on_lines : lines ≡ two_lines later.line earlier.line

clash_is : (before us : List BitUse) (lines : ℕ × ℕ) → IsIn lines (clashes before us) → Clashes before us lines
clash_is before [] lines is = absurd is
clash_is before (u ∷ us) lines is = by_part (in_parts lines (clashes_with u before) (clashes (u ∷ before) us) is) (clash_is (u ∷ before) us lines)
  where
    by_part : IsIn lines (clashes_with u before) ⊎ IsIn lines (clashes (u ∷ before) us) → (IsIn lines (clashes (u ∷ before) us) → Clashes (u ∷ before) us lines) → Clashes before (u ∷ us) lines
    by_part (inl here) more =
        let m = meets u before lines here in
        record { front = []; later = u; rest = us; stands = refl; earlier = m.other; there = inr m.there; clashing = m.clashing; on_lines = m.on_lines }
    by_part (inr behind) more =
        let c = more behind in
        record {
          front = u ∷ c.front;
          later = c.later;
          rest = c.rest;
          stands = ap (λ vs. u ∷ vs) c.stands;
          earlier = c.earlier;
          there = moved c.earlier c.front c.there;
          clashing = c.clashing;
          on_lines = c.on_lines;
        }
      where
        moved : (e : BitUse) (front : List BitUse) → IsIn e front ⊎ ((e ≡ u) ⊎ IsIn e before) → ((e ≡ u) ⊎ IsIn e front) ⊎ IsIn e before
        moved e front (inl there) = inl (inr there)
        moved e front (inr (inl same)) = inl (inl same)
        moved e front (inr (inr there)) = inr there

clash_there : (before front : List BitUse) (later earlier : BitUse) (rest : List BitUse) → IsIn earlier front ⊎ IsIn earlier before → clash later earlier ≡ true
    → IsIn (two_lines later.line earlier.line) (clashes before (front ++ later ∷ rest))
clash_there before [] later earlier rest (inl there) clashing = absurd there
clash_there before [] later earlier rest (inr there) clashing = in_left _ (clashes_with later before) (clashes (later ∷ before) rest) (met later earlier before there clashing)
clash_there before (f ∷ front) later earlier rest there clashing =
    in_right _ (clashes_with f before) (clashes (f ∷ before) (front ++ later ∷ rest)) (clash_there (f ∷ before) front later earlier rest (moved there) clashing)
  where
    moved : ((earlier ≡ f) ⊎ IsIn earlier front) ⊎ IsIn earlier before → IsIn earlier front ⊎ ((earlier ≡ f) ⊎ IsIn earlier before)
    moved (inl (inl same)) = inr (inl same)
    moved (inl (inr there)) = inl there
    moved (inr there) = inr (inr there)

-- ---- the law
shared_is : (uses : List BitUse) (lines : ℕ × ℕ) → IsIn lines (clashes [] uses) → AreShared uses lines
shared_is uses lines is = of_clash (clash_is [] uses lines is)
  where
    of_clash : Clashes [] uses lines → AreShared uses lines
    of_clash c = placed (elim c.there [ inl there ↦ stands_in c.earlier c.front there | inr none ↦ absurd none ])
      where
        placed : StandsBetween c.earlier c.front → AreShared uses lines
        placed s = record {
          front = s.front;
          one = c.earlier;
          middle = s.rest;
          other = c.later;
          rest = c.rest;
          stand = c.stands ∙ ap (λ front. front ++ c.later ∷ c.rest) s.is ∙ append_assoc s.front (c.earlier ∷ s.rest) (c.later ∷ c.rest);
          clashing = c.clashing;
          on_lines = c.on_lines;
        }

shared_there : (uses : List BitUse) (lines : ℕ × ℕ) → AreShared uses lines → IsIn lines (clashes [] uses)
shared_there uses lines a =
    let there : IsIn a.one (a.front ++ a.one ∷ a.middle) = in_right a.one a.front (a.one ∷ a.middle) (inl refl) in
    let found : IsIn (two_lines a.other.line a.one.line) (clashes [] ((a.front ++ a.one ∷ a.middle) ++ a.other ∷ a.rest)) =
    clash_there [] (a.front ++ a.one ∷ a.middle) a.other a.one a.rest (inl there) a.clashing in
    let whole : (a.front ++ a.one ∷ a.middle) ++ a.other ∷ a.rest ≡ uses = append_assoc a.front (a.one ∷ a.middle) (a.other ∷ a.rest) ∙ sym a.stand in
    subst (λ us. IsIn lines (clashes [] us)) whole (subst (λ l. IsIn l (clashes [] ((a.front ++ a.one ∷ a.middle) ++ a.other ∷ a.rest))) (sym a.on_lines) found)

pub first_is_shared : (uses : List BitUse) → AreFirstShared uses (fold first_of None (clashes [] uses))
first_is_shared uses = by_lines (clashes [] uses) refl
  where
    by_lines : (ps : List (ℕ × ℕ)) → clashes [] uses ≡ ps → AreFirstShared uses (fold first_of None (clashes [] uses))
    by_lines [] none = rw none (λ lines a. subst (IsIn lines) none (shared_there uses lines a))
    by_lines (p ∷ ps) some = of_first (has_first p ps)
      where
        of_first : HasFirst p ps → AreFirstShared uses (fold first_of None (clashes [] uses))
        of_first h =
            let there : IsIn h.first (p ∷ ps) = h.among in
            let least : (x : ℕ × ℕ) → IsIn x (p ∷ ps) → precedes x h.first ≡ false =
            λ x is. elim is [ inl e ↦ ap (λ y. precedes y h.first) e ∙ h.begin | inr behind ↦ h.others x behind ] in
            let is : fold first_of None (clashes [] uses) ≡ Some h.first = ap (fold first_of None) some ∙ h.is in
            subst (AreFirstShared uses) (sym is) (
              shared_is uses h.first (subst (IsIn h.first) (sym some) there),
              λ others a. least others (subst (IsIn others) some (shared_there uses others a)),
            )
