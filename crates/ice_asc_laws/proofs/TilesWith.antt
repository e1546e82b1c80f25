-- Other rows of one tile: this tile has them, and every other tile keeps its own.
use Rattle.std.proofs.Common.{◌≡◌, ℕ, zero, suc, Bool, true, false, cond, Option, Some, is_some, option_map, List, [], ◌∷◌, get_or, replicate, map, refl, sym, ap, ◌∙◌, subst}
use Rattle.std.specs.Map.{lookup}
use Rattle.ice_base.specs.declared.number.TileAt.{TileAt}
use Rattle.ice_base.specs.declared.bit.BitAt.{BitAt}
use Rattle.ice_base.proofs.Keys.{tile_same, tile_self}
use Rattle.ice_chip.specs.Database.{same_tile, columns, tile_known}
use Rattle.ice_chip.specs.declared.rows.TileLine.{TileLine}
use Rattle.ice_chip.specs.declared.rows.TileKind.{TileKind}
use Rattle.ice_bits.specs.Configuration.{bit_at}
use Rattle.ice_bits.specs.Grids.{blank_rows, blank_tile}
use Rattle.ice_bits.specs.Rewriting.{tiles_with}

abbrev pub Grid : Type 0
Grid = List (List Bool)

abbrev Grids : Type 0
Grids = List (TileAt × Grid)

pub changed_here : (t : TileAt) (rows : Grid) (es : Grids) → is_some (lookup (same_tile t) es) ≡ true → lookup (same_tile t) (tiles_with t (λ _. rows) es) ≡ Some rows
changed_here t rows [] there = absurd (cc)
changed_here t rows (e ∷ es) there = by (same_tile t e.0) refl there (λ later. changed_here t rows es later)
  where
    by : (here : Bool) → same_tile t e.0 ≡ here → is_some (cond here (Some e.1) (lookup (same_tile t) es)) ≡ true
        → (is_some (lookup (same_tile t) es) ≡ true → lookup (same_tile t) (tiles_with t (λ _. rows) es) ≡ Some rows)
        → lookup (same_tile t) (cond here ((e.0, rows) ∷ es) (e ∷ tiles_with t (λ _. rows) es)) ≡ Some rows
    by true is there rest = rw is refl
    by false is there rest = rw is (rest there)

pub same_elsewhere : (t u : TileAt) (rows : Grid) (es : Grids) → same_tile t u ≡ false → lookup (same_tile u) (tiles_with t (λ _. rows) es) ≡ lookup (same_tile u) es
same_elsewhere t u rows [] other = refl
same_elsewhere t u rows (e ∷ es) other = by (same_tile t e.0) refl (same_tile u e.0) refl (same_elsewhere t u rows es other)
  where
    by : (here : Bool) → same_tile t e.0 ≡ here → (there : Bool) → same_tile u e.0 ≡ there → lookup (same_tile u) (tiles_with t (λ _. rows) es) ≡ lookup (same_tile u) es
        → lookup (same_tile u) (cond here ((e.0, rows) ∷ es) (e ∷ tiles_with t (λ _. rows) es)) ≡ cond there (Some e.1) (lookup (same_tile u) es)
    by true is false not_there rest = rw not_there refl
    by true is true there rest =
        let same : t ≡ u = tile_same t e.0 is ∙ sym (tile_same u e.0 there) in
        let self : same_tile t u ≡ true = subst (λ (v : TileAt). same_tile t v ≡ true) same (tile_self t) in
        absurd (cc)
    by false is there at rest =
        ap (λ z. cond z (Some e.1) (lookup (same_tile u) (tiles_with t (λ _. rows) es))) at ∙ ap (λ (o : Option Grid). cond there (Some e.1) o) rest

-- the tiles that are there stay
pub tiles_stay : (t u : TileAt) (rows : Grid) (es : Grids) → is_some (lookup (same_tile u) (tiles_with t (λ _. rows) es)) ≡ is_some (lookup (same_tile u) es)
tiles_stay t u rows [] = refl
tiles_stay t u rows (e ∷ es) = by (same_tile t e.0) (same_tile u e.0) refl (tiles_stay t u rows es)
  where
    by : (here there : Bool) → same_tile u e.0 ≡ there → is_some (lookup (same_tile u) (tiles_with t (λ _. rows) es)) ≡ is_some (lookup (same_tile u) es)
        → is_some (lookup (same_tile u) (cond here ((e.0, rows) ∷ es) (e ∷ tiles_with t (λ _. rows) es))) ≡ is_some (cond there (Some e.1) (lookup (same_tile u) es))
    by true true at rest = rw at refl
    by true false at rest = rw at refl
    by false true at rest = rw at refl
    by false false at rest = rw at rest

-- ---- bits that are all 0
-- every tile of a chip is there
pub blank_has : (tiles : List (TileAt × TileLine)) (t : TileAt) (kind : TileKind) → option_map (λ (known : TileLine). known.kind) (tile_known tiles t) ≡ Some kind
    → is_some (lookup (same_tile t) (map blank_tile tiles)) ≡ true
blank_has [] t kind known = absurd (cc)
blank_has (tile ∷ tiles) t kind known = by (same_tile t tile.0) known (λ later. blank_has tiles t kind later)
  where
    by : (here : Bool) → option_map (λ (known : TileLine). known.kind) (cond here (Some tile.1) (tile_known tiles t)) ≡ Some kind
        → (option_map (λ (known : TileLine). known.kind) (tile_known tiles t) ≡ Some kind → is_some (lookup (same_tile t) (map blank_tile tiles)) ≡ true)
        → is_some (cond here (Some (blank_rows (columns tile.1.kind))) (lookup (same_tile t) (map blank_tile tiles))) ≡ true
    by true known rest = refl
    by false known rest = rest known

blank_in_row : (width col : ℕ) → get_or (replicate width false) col false ≡ false
blank_in_row zero col = refl
blank_in_row (suc width) zero = refl
blank_in_row (suc width) (suc col) = blank_in_row width col

blank_in : (tall width row col : ℕ) → get_or (get_or (replicate tall (replicate width false)) row []) col false ≡ false
blank_in zero width row col = refl
blank_in (suc tall) width zero col = blank_in_row width col
blank_in (suc tall) width (suc row) col = blank_in tall width row col

pub blank_bit : (tiles : List (TileAt × TileLine)) (t : TileAt) (b : BitAt) → bit_at (lookup (same_tile t) (map blank_tile tiles)) b ≡ false
blank_bit [] t b = refl
blank_bit (tile ∷ tiles) t b = by (same_tile t tile.0) (blank_bit tiles t b)
  where
    by : (here : Bool) → bit_at (lookup (same_tile t) (map blank_tile tiles)) b ≡ false
        → bit_at (cond here (Some (blank_rows (columns tile.1.kind))) (lookup (same_tile t) (map blank_tile tiles))) b ≡ false
    by true rest = blank_in 16 (columns tile.1.kind) b.row b.col
    by false rest = rest
