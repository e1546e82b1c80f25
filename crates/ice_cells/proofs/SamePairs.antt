-- The derived `==` of pairs, as the definitions name it.
use Rattle.std.proofs.Common.{◌≡◌, Bool, true, false, refl, ap, ◌∙◌}
use Rattle.std.specs.Prelude.{◌&&◌}
use Rattle.std.proofs.Math.Path.{fun_ext}
use Rattle.ice_cells.specs.Same.{same_level, same_origin, same_pair}
use Rattle.ice_cells.specs.contracts.origin.OriginPartialEq.TheImpl as origins
use Rattle.ice_cells.specs.contracts.share.PairPartialEq.TheImpl as pairs
use Rattle.ice_cells.specs.declared.origin.Origin.{Origin}
use Rattle.ice_cells.specs.declared.origin.Origin.TheVariants.{Fixed, Pad, Made}
use Rattle.ice_cells.specs.declared.share.Pair.{Pair}
use Rattle.std.proofs.lemmas.Bool.{eq-eqb}
use Rattle.std.proofs.lemmas.Bool.{eqb-true}
use Rattle.ice_cells.proofs.SameControls.{same_level_is, same_level_self, both}

levels_equal : (a b : Bool) → (origins.eq-value).it (Fixed a) (Fixed b) ≡ same_level a b
levels_equal false false = refl
levels_equal false true = refl
levels_equal true false = refl
levels_equal true true = refl

pub origins_equal : (a b : Origin) → (origins.eq-value).it a b ≡ same_origin a b
origins_equal (Fixed a) (Fixed b) = levels_equal a b
origins_equal (Fixed a) (Pad k) = refl
origins_equal (Fixed a) (Made i) = refl
origins_equal (Pad j) (Fixed b) = refl
origins_equal (Pad j) (Pad k) = refl
origins_equal (Pad j) (Made i) = refl
origins_equal (Made h) (Fixed b) = refl
origins_equal (Made h) (Pad k) = refl
origins_equal (Made h) (Made i) = refl

pub pairs_equal : (pairs.eq-value).it ≡ same_pair
pairs_equal = fun_ext (λ (a : Pair). fun_ext (λ (b : Pair).
    ap (λ (x : Bool). x && (origins.eq-value).it a.second b.second) (origins_equal a.first b.first) ∙ ap (λ (x : Bool). same_origin a.first b.first && x) (origins_equal a.second b.second)))

pub same_origin_is : (a b : Origin) → same_origin a b ≡ true → a ≡ b
same_origin_is (Fixed a) (Fixed b) e = ap Fixed (same_level_is a b e)
same_origin_is (Fixed a) (Pad k) e = cc
same_origin_is (Fixed a) (Made i) e = cc
same_origin_is (Pad j) (Fixed b) e = cc
same_origin_is (Pad j) (Pad k) e = ap Pad (eqb-true j k e)
same_origin_is (Pad j) (Made i) e = cc
same_origin_is (Made h) (Fixed b) e = cc
same_origin_is (Made h) (Pad k) e = cc
same_origin_is (Made h) (Made i) e = ap Made (eqb-true h i e)

pub same_origin_self : (a : Origin) → same_origin a a ≡ true
same_origin_self (Fixed a) = same_level_self a
same_origin_self (Pad j) = eq-eqb j j refl
same_origin_self (Made h) = eq-eqb h h refl

pub same_pair_is : (a b : Pair) → same_pair a b ≡ true → a ≡ b
same_pair_is a b e =
    let parts = both (same_origin a.first b.first) (same_origin a.second b.second) e in
    let f : a.first ≡ b.first = same_origin_is a.first b.first parts.0 in
    let g : a.second ≡ b.second = same_origin_is a.second b.second parts.1 in
    λ i. record { first = f i; second = g i }

pub same_pair_self : (a : Pair) → same_pair a a ≡ true
same_pair_self a = rw (same_origin_self a.first, same_origin_self a.second) refl
