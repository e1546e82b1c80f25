-- One bit more that is noted of a group.
use Rattle.std.proofs.Common.{◌≡◌, ℕ, Bool, true, false, cond, Option, None, Some, eqb, refl, ap, sym, ◌∙◌}
use Rattle.std.specs.Prelude.{◌==◌, ◌&&◌, ◌||◌, not}
use Rattle.std.proofs.lemmas.Bool.{and_parts, eqb-true, eq-eqb}
use Rattle.ice_base.proofs.Booleans.{or_true, or_false, or_assoc}
use Rattle.ice_base.proofs.Keys.{tile_same, place_same}
use Rattle.ice_base.specs.declared.number.TileAt.{TileAt}
use Rattle.ice_base.specs.declared.bit.BitAt.{BitAt}
use Rattle.ice_chip.specs.Database.{same_tile}
use Rattle.ice_base.specs.Places.{same_place}
use Rattle.ice_bits_rows.specs.Owners.{same_key, owner_with, is_other}
use Rattle.ice_bits_rows.specs.declared.owners.Owner.{Owner}

eq_sym : (a b : ℕ) → eqb a b ≡ eqb b a
eq_sym a b = by (eqb a b) (eqb b a) refl refl
  where
    by : (x y : Bool) → eqb a b ≡ x → eqb b a ≡ y → x ≡ y
    by true true e f = refl
    by false false e f = refl
    by true false e f = sym (eq-eqb b a (sym (eqb-true a b e))) ∙ f
    by false true e f = sym e ∙ eq-eqb a b (sym (eqb-true b a f))

-- a wire more
with_more : (w v : ℕ) (o : Option Owner) → is_other w (Some (owner_with v o)) ≡ (is_other w o || not (v == w))
with_more w v None = refl
with_more w v (Some u) = by u.several (eqb u.wire.0 w) refl
  where
    by : (s e : Bool) → eqb u.wire.0 w ≡ e → ((s || not (u.wire.0 == v)) || not e) ≡ ((s || not e) || not (v == w))
    by true e is = refl
    by false false is = or_true (not (u.wire.0 == v))
    by false true is = or_false (not (u.wire.0 == v)) ∙ ap (λ n. not (eqb n v)) (eqb-true u.wire.0 w is) ∙ ap not (eq_sym w v)

table : (o n rest : Bool) → ((o || n) || (n && rest)) ≡ (o || (n && true))
table true n rest = refl
table false true rest = refl
table false false rest = refl

step : (t s n o new rest : Bool) → ((t && s) ≡ true → new ≡ (o || n)) → ((t && s) ≡ false → new ≡ o)
    → (new || (t && (n && rest))) ≡ (o || (t && (n && (s || rest))))
step true true n o new rest so other = ap (λ z. z || (n && rest)) (so refl) ∙ table o n rest
step true false n o new rest so other = ap (λ z. z || (n && rest)) (other refl)
step false s n o new rest so other = ap (λ z. z || false) (other refl)

pub one_more : (f : TileAt → BitAt → Option Owner) (tile : TileAt) (bit : BitAt) (v : ℕ) (t : TileAt) (b : BitAt) (w : ℕ) (new : Option Owner) (rest : Bool)
    → new ≡ cond (same_key tile bit t b) (Some (owner_with v (f tile bit))) (f t b)
    → (is_other w new || (same_tile tile t && (not (v == w) && rest))) ≡ (is_other w (f t b) || (same_tile tile t && (not (v == w) && (same_place bit b || rest))))
one_more f tile bit v t b w new rest noted = step (same_tile tile t) (same_place bit b) (not (v == w)) (is_other w (f t b)) (is_other w new) rest so other
  where
    so : same_key tile bit t b ≡ true → is_other w new ≡ (is_other w (f t b) || not (v == w))
    so e =
        let parts = and_parts (same_tile tile t) (same_place bit b) e in
        let here : f tile bit ≡ f t b = ap (λ x. f x bit) (tile_same tile t parts.0) ∙ ap (λ x. f t x) (place_same bit b parts.1) in
        ap (is_other w) (noted ∙ ap (λ z. cond z (Some (owner_with v (f tile bit))) (f t b)) e)
        ∙ with_more w v (f tile bit)
        ∙ ap (λ o. is_other w o || not (v == w)) here

    other : same_key tile bit t b ≡ false → is_other w new ≡ is_other w (f t b)
    other e = ap (is_other w) (noted ∙ ap (λ z. cond z (Some (owner_with v (f tile bit))) (f t b)) e)

-- a group more: what was noted, then the group, then the others
pub group_more : (old new here rest : Bool) → new ≡ (old || here) → (new || rest) ≡ (old || (here || rest))
group_more old new here rest e = ap (λ z. z || rest) e ∙ or_assoc old here rest
