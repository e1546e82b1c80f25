-- What the use of a cell tells of its readings.
use Rattle.std.proofs.Common.{◌≡◌, ◌⊎◌, ℕ, zero, suc, ◌<◌, Bool, true, false, cond, Option, None, Some, List, [], ◌∷◌, refl, ap, sym, ◌∙◌, arith, inl, inr}
use Rattle.std.proofs.lemmas.Bool.{eq-eqb, eqb-true, cases_lt}
use Rattle.std.proofs.lemmas.Option.{same_Some}
use Rattle.ice_base_values.specs.Order.{At, Has}
use Rattle.ice_cells.specs.declared.origin.Origin.{Origin}
use Rattle.ice_cells.specs.declared.origin.Origin.TheVariants.{Fixed, Pad, Made}
use Rattle.ice_cells.specs.declared.origin.Use.{Use}
use Rattle.ice_cells.specs.declared.origin.Use.TheVariants.{Nobody, Taken, Other}
use Rattle.ice_cells.specs.Tables.{is_place, gathered}
use Rattle.ice_cells.specs.Uses.{Reading, made_by, maker, after, use_after, first_use}

abbrev used : ℕ → Use → List Reading → Use
used j u rs = gathered made_by after j u rs

at_place : (j : ℕ) (o : Origin) → is_place j (maker o) ≡ true → o ≡ Made j
at_place j (Fixed level) e = cc
at_place j (Pad k) e = cc
at_place j (Made i) e = ap Made (eqb-true i j e)

-- one more reading of the cell
on_place : (j : ℕ) (u : Use) (r : Reading) (rs : List Reading) (reader : Option ℕ) → Some r ≡ Some (Made j, reader) → used j u (r ∷ rs) ≡ used j (use_after u reader) rs
on_place j u r rs reader e =
    let pair : r ≡ (Made j, reader) = same_Some r (Made j, reader) e in
    let here : r.0 ≡ Made j = ap (λ (x : Reading). x.0) pair in
    let by_it : r.1 ≡ reader = ap (λ (x : Reading). x.1) pair in
    ap (λ b. used j (cond b (after u r) u) rs) (ap (λ o. is_place j (maker o)) here ∙ eq-eqb j j refl) ∙ ap (λ x. used j (use_after u x) rs) by_it

pub other_stays : (j : ℕ) (rs : List Reading) → used j Other rs ≡ Other
other_stays j [] = refl
other_stays j (r ∷ rs) = by (is_place j (made_by r)) (other_stays j rs)
  where
    by : (b : Bool) → used j Other rs ≡ Other → used j (cond b Other Other) rs ≡ Other
    by true rest = rest
    by false rest = rest

after_plain : (u : Use) → use_after u None ≡ Other
after_plain Nobody = refl
after_plain (Taken f) = refl
after_plain Other = refl

-- what is read in another way is Other
pub read_otherwise : (j : ℕ) (rs : List Reading) (u : Use) (i : ℕ) → At rs i (Made j, None) → used j u rs ≡ Other
read_otherwise j [] u i at = cc
read_otherwise j (r ∷ rs) u zero at = on_place j u r rs None at ∙ ap (λ x. used j x rs) (after_plain u) ∙ other_stays j rs
read_otherwise j (r ∷ rs) u (suc i) at = read_otherwise j rs (cond (is_place j (made_by r)) (after u r) u) i at

-- what is taken, and read once more, is Other
read_again : (j f : ℕ) (rs : List Reading) (i : ℕ) (reader : Option ℕ) → At rs i (Made j, reader) → used j (Taken f) rs ≡ Other
read_again j f [] i reader at = cc
read_again j f (r ∷ rs) zero reader at = on_place j (Taken f) r rs reader at ∙ other_stays j rs
read_again j f (r ∷ rs) (suc i) reader at = by (is_place j (made_by r)) (read_again j f rs i reader at)
  where
    by : (b : Bool) → used j (Taken f) rs ≡ Other → used j (cond b Other (Taken f)) rs ≡ Other
    by true rest = other_stays j rs
    by false rest = rest

read_first : (j : ℕ) (rs : List Reading) (o : Option ℕ) (i : ℕ) (reader : Option ℕ) → At rs i (Made j, reader) → used j (first_use o) rs ≡ Other
read_first j rs None i reader at = other_stays j rs
read_first j rs (Some f) i reader at = read_again j f rs i reader at

after_any : (j : ℕ) (u : Use) (rs : List Reading) (o : Option ℕ) (i : ℕ) (reader : Option ℕ) → At rs i (Made j, reader) → used j (use_after u o) rs ≡ Other
after_any j Nobody rs o i reader at = read_first j rs o i reader at
after_any j (Taken f) rs o i reader at = other_stays j rs
after_any j Other rs o i reader at = other_stays j rs

-- what is read twice is Other
pub read_twice : (j : ℕ) (rs : List Reading) (u : Use) (i k : ℕ) (one two : Option ℕ) → i < k → At rs i (Made j, one) → At rs k (Made j, two) → used j u rs ≡ Other
read_twice j [] u i k one two lt at at' = cc
read_twice j (r ∷ rs) u i zero one two lt at at' = absurd (omega arith)
read_twice j (r ∷ rs) u zero (suc k) one two lt at at' = on_place j u r rs one at ∙ after_any j u rs one k two at'
read_twice j (r ∷ rs) u (suc i) (suc k) one two lt at at' = read_twice j rs (cond (is_place j (made_by r)) (after u r) u) i k one two (omega arith) at at'

first_back : (o : Option ℕ) (f : ℕ) → first_use o ≡ Taken f → o ≡ Some f
first_back None f e = cc
first_back (Some g) f e = (let same : g ≡ f = cc in ap Some same)

after_back : (u : Use) (o : Option ℕ) (f : ℕ) → use_after u o ≡ Taken f → o ≡ Some f
after_back Nobody o f e = first_back o f e
after_back (Taken g) o f e = cc
after_back Other o f e = cc

-- what is taken is read by that flip-flop, as what it takes
pub taken_back : (j f : ℕ) (rs : List Reading) (u : Use) → used j u rs ≡ Taken f → Has rs (Made j, Some f) ⊎ (u ≡ Taken f)
taken_back j f [] u e = inr e
taken_back j f (r ∷ rs) u e = elim (taken_back j f rs (cond (is_place j (made_by r)) (after u r) u) e) [
  | inl has ↦ inl (suc has.0, has.1)
  | inr now ↦ by (is_place j (made_by r)) refl now
]
  where
    by : (b : Bool) → is_place j (made_by r) ≡ b → cond b (after u r) u ≡ Taken f → Has (r ∷ rs) (Made j, Some f) ⊎ (u ≡ Taken f)
    by false is g = inr g
    by true is g = inl (0, (λ i. Some (at_place j r.0 is i, after_back u r.1 f g i)))

pub taken_other : (f : ℕ) → Taken f ≡ Other → ⊥
taken_other f e = cc e

-- what is taken is read once
pub taken_once : (j f : ℕ) (rs : List Reading) → used j Nobody rs ≡ Taken f → (i k : ℕ) (one two : Option ℕ) → At rs i (Made j, one) → At rs k (Made j, two) → i ≡ k
taken_once j f rs e i k one two at at' = elim (cases_lt i k) [
  | inl before ↦ absurd (taken_other f (sym e ∙ read_twice j rs Nobody i k one two before at at'))
  | inr behind ↦ elim (cases_lt k i) [
    | inl other ↦ absurd (taken_other f (sym e ∙ read_twice j rs Nobody k i two one other at' at))
    | inr equal ↦ (let g : i ≡ k = omega arith in g)
  ]
]
