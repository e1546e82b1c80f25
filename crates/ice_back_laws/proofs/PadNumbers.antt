-- The numbers of pads in a package.
use Rattle.std.proofs.Common.{◌≡◌, ℕ, suc, ◌<◌, ◌==◌, Bool, true, false, Option, None, Some, List, [], ◌∷◌, length, slice_index_or, option_map, if◌then◌else◌, refl, sym, ap, ◌∙◌, arith}
use Rattle.std.proofs.lemmas.Bool.{and_parts}
use Rattle.std.proofs.lemmas.Option.{same_Some, none-some}
use Rattle.ice_base.proofs.Keys.{nat_same, nat_self, tile_same, tile_self}
use Rattle.ice_chip.specs.Database.{same_tile, same_pad}
use Rattle.ice_chip.specs.declared.rows.Pad.{Pad}
use Rattle.ice_decode.specs.Pads.{level_of}
use Rattle.ice_back_laws.specs.Roots.{pad_number, pad_at}

-- pads that a test takes for one are one
pub pad_same : (a b : Pad) → same_pad a b ≡ true → a ≡ b
pad_same a b e =
    let both = and_parts (same_tile a.tile b.tile) (a.pio == b.pio) e in
    let tile = tile_same a.tile b.tile both.0 in
    let pio = nat_same a.pio b.pio both.1 in
    λ i. record { tile = tile i; pio = pio i }

pub pad_self : (a : Pad) → same_pad a a ≡ true
pad_self a = rw (tile_self a.tile, nat_self a.pio) refl

-- the pad of the number that is found is the pad
pub number_at : (pad : Pad) (bonded : List Pad) (k : ℕ) → pad_number pad bonded ≡ Some k → pad_at bonded k ≡ pad
number_at pad [] k e = absurd (none-some k e)
number_at pad (p ∷ bonded) k e = by (same_pad p pad) refl e (number_at pad bonded)
  where
    next : (o : Option ℕ) → option_map suc o ≡ Some k → ((j : ℕ) → o ≡ Some j → pad_at bonded j ≡ pad) → pad_at (p ∷ bonded) k ≡ pad
    next None f rest = absurd (none-some k f)
    next (Some j) f rest = let g : k ≡ suc j = sym (same_Some (suc j) k f) in ap (pad_at (p ∷ bonded)) g ∙ rest j refl

    by : (b : Bool) → same_pad p pad ≡ b → (if b then Some 0 else option_map suc (pad_number pad bonded)) ≡ Some k → ((j : ℕ) → pad_number pad bonded ≡ Some j → pad_at bonded j ≡ pad) → pad_at (p ∷ bonded) k ≡ pad
    by true is f rest = let g : k ≡ 0 = sym (same_Some 0 k f) in ap (pad_at (p ∷ bonded)) g ∙ pad_same p pad is
    by false is f rest = next (pad_number pad bonded) f rest

pub number_within : (pad : Pad) (bonded : List Pad) (k : ℕ) → pad_number pad bonded ≡ Some k → k < length bonded
number_within pad [] k e = absurd (none-some k e)
number_within pad (p ∷ bonded) k e = by (same_pad p pad) e (number_within pad bonded)
  where
    next : (o : Option ℕ) → option_map suc o ≡ Some k → ((j : ℕ) → o ≡ Some j → j < length bonded) → k < suc (length bonded)
    next None f rest = absurd (none-some k f)
    next (Some j) f rest = let lt = rest j refl in let g : suc j ≡ k = same_Some (suc j) k f in omega (arith, lt, g)

    by : (b : Bool) → (if b then Some 0 else option_map suc (pad_number pad bonded)) ≡ Some k → ((j : ℕ) → pad_number pad bonded ≡ Some j → j < length bonded) → k < suc (length bonded)
    by true f rest = let g : 0 ≡ k = same_Some 0 k f in omega (arith, g)
    by false f rest = next (pad_number pad bonded) f rest

-- the level of a pad, by its number
abbrev pub numbered_level : List Bool → Option ℕ → Bool
numbered_level levels None = false
numbered_level levels (Some k) = slice_index_or levels k false

level_is : (bonded : List Pad) (levels : List Bool) (pad : Pad) → level_of bonded levels pad ≡ numbered_level levels (pad_number pad bonded)
level_is [] levels pad = refl
level_is (p ∷ bonded) [] pad = sym (no_level (if same_pad p pad then Some 0 else option_map suc (pad_number pad bonded)))
  where
    no_level : (o : Option ℕ) → numbered_level [] o ≡ false
    no_level None = refl
    no_level (Some k) = refl
level_is (p ∷ bonded) (x ∷ levels) pad = by (same_pad p pad) (level_is bonded levels pad)
  where
    next : (o : Option ℕ) → numbered_level levels o ≡ numbered_level (x ∷ levels) (option_map suc o)
    next None = refl
    next (Some k) = refl

    by : (b : Bool) → level_of bonded levels pad ≡ numbered_level levels (pad_number pad bonded)
        → (if b then x else level_of bonded levels pad) ≡ numbered_level (x ∷ levels) (if b then Some 0 else option_map suc (pad_number pad bonded))
    by true rest = refl
    by false rest = rest ∙ next (pad_number pad bonded)

pub level_at_number : (bonded : List Pad) (levels : List Bool) (pad : Pad) (o : Option ℕ) → pad_number pad bonded ≡ o → level_of bonded levels pad ≡ numbered_level levels o
level_at_number bonded levels pad o e = level_is bonded levels pad ∙ ap (numbered_level levels) e
