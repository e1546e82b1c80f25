-- Numbers, texts and places that a test takes for the same are equal.
use Rattle.std.proofs.Common.{◌≡◌, ℕ, ◌==◌, Bool, true, false, List, bytes_eq, nat_eq, refl, sym, ap, ◌∙◌, true≢false, rules, tests}
use Rattle.std.specs.Cmp.{IsEquivalence}
use Rattle.std.proofs.lemmas.Bool.{and_parts}
use Rattle.ice_base.specs.declared.number.TileAt.{TileAt}
use Rattle.ice_base.specs.declared.bit.BitAt.{BitAt}
use Rattle.ice_base.specs.Places.{same_tile, same_place}

pub nat_same : (a b : ℕ) → nat_eq a b ≡ true → a ≡ b
nat_same a b e = search (rules, tests)

pub nat_self : (a : ℕ) → nat_eq a a ≡ true
nat_self a = search (rules, tests)

pub bytes_same : (a b : List ℕ) → bytes_eq a b ≡ true → a ≡ b
bytes_same a b e = search (rules, tests)

pub bytes_self : (a : List ℕ) → bytes_eq a a ≡ true
bytes_self a = search (rules, tests)

pub tile_same : (a b : TileAt) → same_tile a b ≡ true → a ≡ b
tile_same a b e =
    let parts = and_parts (a.x == b.x) (a.y == b.y) e in
    let x = nat_same a.x b.x parts.0 in
    let y = nat_same a.y b.y parts.1 in
    λ i. record { x = x i; y = y i }

pub tile_self : (a : TileAt) → same_tile a a ≡ true
tile_self a = rw (nat_self a.x, nat_self a.y) refl

pub place_same : (a b : BitAt) → same_place a b ≡ true → a ≡ b
place_same a b e =
    let parts = and_parts (a.row == b.row) (a.col == b.col) e in
    let row = nat_same a.row b.row parts.0 in
    let col = nat_same a.col b.col parts.1 in
    λ i. record { row = row i; col = col i }

pub place_self : (a : BitAt) → same_place a a ≡ true
place_self a = rw (nat_self a.row, nat_self a.col) refl

-- the test of tiles is an equivalence, as maps by tiles want it
pub tiles_equal : IsEquivalence same_tile
tiles_equal = record { refl = tile_self; symm = λ a b. flipped a b (same_tile a b) (same_tile b a) refl refl; congr = λ a b c e. ap (λ (t : TileAt). same_tile t c) (tile_same a b e) }
  where
    other : (a b : TileAt) → same_tile a b ≡ true → same_tile b a ≡ true
    other a b e = ap (λ (t : TileAt). same_tile t a) (sym (tile_same a b e)) ∙ tile_self a

    flipped : (a b : TileAt) (one two : Bool) → same_tile a b ≡ one → same_tile b a ≡ two → one ≡ two
    flipped a b true two e f = sym (other a b e) ∙ f
    flipped a b false true e f = absurd (true≢false (sym (other b a f) ∙ e))
    flipped a b false false e f = refl
