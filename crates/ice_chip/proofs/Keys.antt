-- Keys that a test takes for the same are equal.
use Rattle.std.proofs.Common.{◌≡◌, ℕ, ◌==◌, Bool, true, false, refl, sym, eq-eqb, eqb-true}
use Rattle.std.proofs.lemmas.Bool.{and_parts}
use Rattle.ice_base.specs.declared.number.TileAt.{TileAt}
use Rattle.ice_base.proofs.Keys.{nat_same, tile_same, nat_self, tile_self}
use Rattle.ice_chip.specs.declared.rows.Pad.{Pad}
use Rattle.ice_chip.specs.declared.index.NumberedName.{NumberedName}
use Rattle.ice_chip.specs.Database.{same_tile, same_pad}
use Rattle.ice_chip.specs.Indices.{same_numbered}

pub pad_same : (a b : Pad) → same_pad a b ≡ true → a ≡ b
pad_same a b e =
    let parts = and_parts (same_tile a.tile b.tile) (a.pio == b.pio) e in
    let tile = tile_same a.tile b.tile parts.0 in
    let pio = nat_same a.pio b.pio parts.1 in
    λ i. record { tile = tile i; pio = pio i }

pub numbered_same : (a b : NumberedName) → same_numbered a b ≡ true → a ≡ b
numbered_same a b e =
    let parts = and_parts (same_tile a.tile b.tile) (a.number == b.number) e in
    let tile = tile_same a.tile b.tile parts.0 in
    let number = nat_same a.number b.number parts.1 in
    λ i. record { tile = tile i; number = number i }

pub pad_self : (p : Pad) → same_pad p p ≡ true
pad_self p = rw (tile_self p.tile, nat_self p.pio) refl

-- the tests give the same both ways
pub number_turned : (a b : ℕ) → (a == b) ≡ (b == a)
number_turned a b = of (a == b) (b == a) refl refl
  where
    of : (x y : Bool) → (a == b) ≡ x → (b == a) ≡ y → x ≡ y
    of true true e f = refl
    of false false e f = refl
    of true false e f = let same : a ≡ b = eqb-true a b e in let hit : (b == a) ≡ true = eq-eqb b a (sym same) in cc (hit, f)
    of false true e f = let same : b ≡ a = eqb-true b a f in let hit : (a == b) ≡ true = eq-eqb a b (sym same) in cc (hit, e)

pub tile_turned : (a b : TileAt) → same_tile a b ≡ same_tile b a
tile_turned a b = rw (number_turned a.x b.x, number_turned a.y b.y) refl

pub pad_turned : (a b : Pad) → same_pad a b ≡ same_pad b a
pad_turned a b = rw (tile_turned a.tile b.tile, number_turned a.pio b.pio) refl
