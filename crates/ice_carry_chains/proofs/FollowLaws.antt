-- What the way in which a carry is read tells of its readings.
use Rattle.std.proofs.Common.{◌≡◌, ◌⊎◌, ℕ, zero, suc, Bool, true, false, cond, Option, None, Some, List, [], ◌∷◌, refl, ap, sym, ◌∙◌, inl, inr}
use Rattle.std.specs.Prelude.{◌==◌}
use Rattle.std.proofs.lemmas.Bool.{eq-eqb, eqb-true}
use Rattle.std.proofs.lemmas.Option.{same_Some}
use Rattle.ice_cells.specs.declared.root.Root.{Root}
use Rattle.ice_cells.specs.declared.root.Root.TheVariants.{PadIn, CellOut, GlobalOut, CarryOut}
use Rattle.ice_cells.specs.Readings.{Reading}
use Rattle.ice_cells.specs.Follows.{carry_read, carry_at, after, first_after, next_after}
use Rattle.ice_cells.specs.declared.follow.Follow.{Follow}
use Rattle.ice_cells.specs.declared.follow.Follow.TheVariants.{Nobody, Next, Other}
use Rattle.ice_cells.specs.declared.follow.Reader.{Reader}
use Rattle.ice_cells.specs.declared.follow.Reader.TheVariants.{Into, Last, Else}
use Rattle.std.specs.Prelude.{slice_get}
use Rattle.ice_cells.specs.Tables.{is_place, gathered}

abbrev followed : ℕ → Follow → List Reading → Follow
followed j u rs = gathered carry_read after j u rs

other_stays : (j : ℕ) (rs : List Reading) → followed j Other rs ≡ Other
other_stays j [] = refl
other_stays j (r ∷ rs) = by (is_place j (carry_read r)) (other_stays j rs)
  where
    by : (b : Bool) → followed j Other rs ≡ Other → followed j (cond b Other Other) rs ≡ Other
    by true rest = rest
    by false rest = rest

never : (j : ℕ) (rs : List Reading) (c : ℕ) → followed j Other rs ≡ Next c → ⊥
never j rs c e = let o = other_stays j rs in cc (o, e)

same_next : (d c : ℕ) → Next d ≡ Next c → d ≡ c
same_next d c e = cc

first_next : (x : Reader) (c : ℕ) → first_after x ≡ Next c → x ≡ Into c
first_next (Into d) c e = ap Into (same_next d c e)
first_next (Last d) c e = cc
first_next Else c e = cc

next_next : (d : ℕ) (x : Reader) (c : ℕ) → next_after d x ≡ Next c → (d ≡ c) × (x ≡ Last c)
next_next d (Into e) c f = cc
next_next d (Last e) c f = by (d == e) refl f
  where
    by : (b : Bool) → (d == e) ≡ b → cond b (Next d) Other ≡ Next c → (d ≡ c) × (Last e ≡ Last c)
    by true g h = let same = same_next d c h in (same, ap Last (sym (eqb-true d e g) ∙ same))
    by false g h = cc
next_next d Else c f = cc

carry_place : (j : ℕ) (o : Option Root) → is_place j (carry_at o) ≡ true → o ≡ Some (CarryOut j)
carry_place j None e = cc
carry_place j (Some (PadIn k)) e = cc
carry_place j (Some (CellOut k)) e = cc
carry_place j (Some (GlobalOut k)) e = cc
carry_place j (Some (CarryOut k)) e = ap (λ i. Some (CarryOut i)) (eqb-true k j e)

-- a carry that follows reads it as what comes in
pub next_back : (j c : ℕ) (rs : List Reading) (u : Follow) → followed j u rs ≡ Next c → ((i : ℕ) × (slice_get rs i ≡ Some (Some (CarryOut j), Into c))) ⊎ (u ≡ Next c)
next_back j c [] u e = inr e
next_back j c (r ∷ rs) u e = elim (next_back j c rs (cond (is_place j (carry_read r)) (after u r) u) e) [
  | inl has ↦ inl (suc has.0, has.1)
  | inr now ↦ by (is_place j (carry_read r)) refl now
]
  where
    after_next : (v : Follow) → is_place j (carry_read r) ≡ true → after v r ≡ Next c → ((i : ℕ) × (slice_get (r ∷ rs) i ≡ Some (Some (CarryOut j), Into c))) ⊎ (v ≡ Next c)
    after_next Nobody is g = inl (0, (λ i. Some (carry_place j r.0 is i, first_next r.1 c g i)))
    after_next (Next d) is g = inr (ap Next (next_next d r.1 c g).0)
    after_next Other is g = cc

    by : (b : Bool) → is_place j (carry_read r) ≡ b → cond b (after u r) u ≡ Next c → ((i : ℕ) × (slice_get (r ∷ rs) i ≡ Some (Some (CarryOut j), Into c))) ⊎ (u ≡ Next c)
    by false is g = inr g
    by true is g = after_next u is g

-- what follows stays what follows
kept : (j d c : ℕ) (rs : List Reading) → followed j (Next d) rs ≡ Next c → d ≡ c
kept j d c [] e = same_next d c e
kept j d c (r ∷ rs) e = by (is_place j (carry_read r)) (next_after d r.1) refl (λ x. kept j x c rs) e
  where
    never_nobody : (d : ℕ) (x : Reader) → next_after d x ≡ Nobody → ⊥
    never_nobody d (Into e) f = cc
    never_nobody d (Last e) f = by_test (d == e) f
      where
        by_test : (b : Bool) → cond b (Next d) Other ≡ Nobody → ⊥
        by_test true g = cc
        by_test false g = cc
    never_nobody d Else f = cc

    on : (v : Follow) → next_after d r.1 ≡ v → ((x : ℕ) → followed j (Next x) rs ≡ Next c → x ≡ c) → followed j v rs ≡ Next c → d ≡ c
    on Nobody f rest g = absurd (never_nobody d r.1 f)
    on (Next x) f rest g = (next_next d r.1 x f).0 ∙ rest x g
    on Other f rest g = absurd (never j rs c g)

    by : (b : Bool) (v : Follow) → next_after d r.1 ≡ v → ((x : ℕ) → followed j (Next x) rs ≡ Next c → x ≡ c) → followed j (cond b (next_after d r.1) (Next d)) rs ≡ Next c → d ≡ c
    by false v f rest g = rest d g
    by true v f rest g = on v f rest (ap (λ x. followed j x rs) (sym f) ∙ g)

-- one more reading of the carry
on_place : (j : ℕ) (u : Follow) (r : Reading) (rs : List Reading) (x : Reader) → Some r ≡ Some (Some (CarryOut j), x) → followed j u (r ∷ rs) ≡ followed j (after u (Some (CarryOut j), x)) rs
on_place j u r rs x e =
    let pair : r ≡ (Some (CarryOut j), x) = same_Some r (Some (CarryOut j), x) e in
    ap (λ (y : Reading). followed j u (y ∷ rs)) pair ∙ ap (λ b. followed j (cond b (after u (Some (CarryOut j), x)) u) rs) (eq-eqb j j refl)

-- a carry that another follows is read by that one alone, as what comes in or by the last input of its cell
pub next_only : (j c : ℕ) (rs : List Reading) (u : Follow) → followed j u rs ≡ Next c → (i : ℕ) (x : Reader) → slice_get rs i ≡ Some (Some (CarryOut j), x) → (x ≡ Into c) ⊎ (x ≡ Last c)
next_only j c [] u e i x at = cc
next_only j c (r ∷ rs) u e zero x at = by u (sym (on_place j u r rs x at) ∙ e)
  where
    first : (y : Reader) → followed j (first_after y) rs ≡ Next c → (y ≡ Into c) ⊎ (y ≡ Last c)
    first (Into d) f = inl (ap Into (kept j d c rs f))
    first (Last d) f = absurd (never j rs c f)
    first Else f = absurd (never j rs c f)

    last : (d e : ℕ) (b : Bool) → (d == e) ≡ b → followed j (cond b (Next d) Other) rs ≡ Next c → (Last e ≡ Into c) ⊎ (Last e ≡ Last c)
    last d e true g f = inr (ap Last (sym (eqb-true d e g) ∙ kept j d c rs f))
    last d e false g f = absurd (never j rs c f)

    second : (d : ℕ) (y : Reader) → followed j (next_after d y) rs ≡ Next c → (y ≡ Into c) ⊎ (y ≡ Last c)
    second d (Into e) f = absurd (never j rs c f)
    second d (Last e) f = last d e (d == e) refl f
    second d Else f = absurd (never j rs c f)

    by : (v : Follow) → followed j (after v (Some (CarryOut j), x)) rs ≡ Next c → (x ≡ Into c) ⊎ (x ≡ Last c)
    by Nobody f = first x f
    by (Next d) f = second d x f
    by Other f = absurd (never j rs c f)
next_only j c (r ∷ rs) u e (suc i) x at = next_only j c rs (cond (is_place j (carry_read r)) (after u r) u) e i x at

-- ---- a carry that is read is not one that nothing reads
abbrev pub is_marked : Follow → Bool
is_marked Nobody = false
is_marked (Next d) = true
is_marked Other = true

after_marks : (u : Follow) (r : Reading) → is_marked (after u r) ≡ true
after_marks Nobody r = by r.1
  where
    by : (x : Reader) → is_marked (first_after x) ≡ true
    by (Into d) = refl
    by (Last d) = refl
    by Else = refl
after_marks (Next d) r = by r.1
  where
    test : (b : Bool) → is_marked (cond b (Next d) Other) ≡ true
    test true = refl
    test false = refl

    by : (x : Reader) → is_marked (next_after d x) ≡ true
    by (Into e) = refl
    by (Last e) = test (d == e)
    by Else = refl
after_marks Other r = refl

stays_marked : (j : ℕ) (rs : List Reading) (u : Follow) → is_marked u ≡ true → is_marked (followed j u rs) ≡ true
stays_marked j [] u e = e
stays_marked j (r ∷ rs) u e = stays_marked j rs (cond (is_place j (carry_read r)) (after u r) u) (by (is_place j (carry_read r)))
  where
    by : (b : Bool) → is_marked (cond b (after u r) u) ≡ true
    by true = after_marks u r
    by false = e

pub read_marked : (j : ℕ) (rs : List Reading) (u : Follow) (i : ℕ) (x : Reader) → slice_get rs i ≡ Some (Some (CarryOut j), x) → is_marked (followed j u rs) ≡ true
read_marked j [] u i x at = cc
read_marked j (r ∷ rs) u zero x at = ap is_marked (on_place j u r rs x at) ∙ stays_marked j rs (after u (Some (CarryOut j), x)) (after_marks u (Some (CarryOut j), x))
read_marked j (r ∷ rs) u (suc i) x at = read_marked j rs (cond (is_place j (carry_read r)) (after u r) u) i x at
