-- Bits of a chip have the form that the chip's tiles have.
use Rattle.std.proofs.Common.{◌≡◌, ℕ, ◌<◌, Bool, true, false, cond, Some, option_map, List, [], ◌∷◌, length, get_or, replicate, map, refl, sym, ap, ◌∙◌, subst, arith, rules, tests}
use Rattle.std.specs.Prelude.{◌&&◌, nat_lt}
use Rattle.std.specs.List.{IsDistinct}
use Rattle.std.specs.Map.{lookup}
use Rattle.std.specs.Option.{option_map_or}
use Rattle.std.proofs.lemmas.List.{length-replicate, get_or-replicate}
use Rattle.std.proofs.lemmas.List.Elements.{All-get_or, All-from_get_or}
use Rattle.ice_base.specs.declared.number.TileAt.{TileAt}
use Rattle.ice_base.specs.declared.bit.BitAt.{BitAt}
use Rattle.ice_chip.specs.Database.{Parts, same_tile, columns, tile_known}
use Rattle.ice_chip.specs.declared.rows.TileLine.{TileLine}
use Rattle.ice_bits.specs.Configuration.{Configuration}
use Rattle.ice_bits.specs.Grids.{AreContents, is_in, is_there, is_bit_of, IsGrid, AreGrids, IsOf, blank_rows, blank_tile, blank}
use Rattle.ice_bits.specs.Rewriting.{tiles_with, with_rows}

-- ---- bits that are all 0
blank_grid : (width : ℕ) → IsGrid width (blank_rows width)
blank_grid width = record {
  tall = length-replicate 16 (replicate width false);
  wide = All-from_get_or (λ (row : List Bool). length row ≡ width) (blank_rows width) []
      (λ i lt. ap length (get_or-replicate 16 i (replicate width false) [] (let e = length-replicate 16 (replicate width false) in omega arith)) ∙ length-replicate width false);
}

blank_grids : (tiles : List (TileAt × TileLine)) → AreGrids tiles (map blank_tile tiles)
blank_grids [] = tt
blank_grids (tile ∷ tiles) = (refl, blank_grid (columns tile.1.kind), blank_grids tiles)

pub no_contents : (parts : Parts) → AreContents parts []
unfolding IsDistinct
no_contents parts = record { each = tt; once = tt }

pub blank_is_of : (parts : Parts) → IsOf parts (blank parts)
blank_is_of parts = record { grids = blank_grids parts.tiles; kinds = refl; contents = no_contents parts }

-- ---- the places of the bits
places_of_grid : (width : ℕ) (rows : List (List Bool)) (b : BitAt) → IsGrid width rows → is_in rows b ≡ (nat_lt b.row 16 && nat_lt b.col width)
places_of_grid width rows b is = ap (λ n. nat_lt b.row n && nat_lt b.col (length (get_or rows b.row []))) is.tall ∙ by (nat_lt b.row 16) refl
  where
    within : nat_lt b.row 16 ≡ true → b.row < length rows
    within e = let lt : b.row < 16 = search (rules, tests) in let tall = is.tall in omega arith

    by : (x : Bool) → nat_lt b.row 16 ≡ x → (x && nat_lt b.col (length (get_or rows b.row []))) ≡ (x && nat_lt b.col width)
    by true e = ap (λ n. nat_lt b.col n) (All-get_or (λ (row : List Bool). length row ≡ width) rows b.row [] (within e) is.wide)
    by false e = refl

places_of_grids : (tiles : List (TileAt × TileLine)) (grids : List (TileAt × List (List Bool))) (t : TileAt) (b : BitAt) → AreGrids tiles grids
    → option_map_or (λ rows. is_in rows b) (lookup (same_tile t) grids) false
    ≡ option_map_or (λ kind. nat_lt b.row 16 && nat_lt b.col (columns kind)) (option_map (λ (known : TileLine). known.kind) (tile_known tiles t)) false
places_of_grids [] [] t b are = refl
places_of_grids [] (grid ∷ grids) t b are = absurd are
places_of_grids (tile ∷ tiles) [] t b are = absurd are
places_of_grids (tile ∷ tiles) (grid ∷ grids) t b are =
    ap (λ (u : TileAt). option_map_or (λ rows. is_in rows b) (cond (same_tile t u) (Some grid.1) (lookup (same_tile t) grids)) false) are.0 ∙ by (same_tile t tile.0) (places_of_grids tiles grids t b are.2)
  where
    by : (here : Bool)
        → option_map_or (λ rows. is_in rows b) (lookup (same_tile t) grids) false
        ≡ option_map_or (λ kind. nat_lt b.row 16 && nat_lt b.col (columns kind)) (option_map (λ (known : TileLine). known.kind) (tile_known tiles t)) false
        → option_map_or (λ rows. is_in rows b) (cond here (Some grid.1) (lookup (same_tile t) grids)) false
        ≡ option_map_or (λ kind. nat_lt b.row 16 && nat_lt b.col (columns kind)) (option_map (λ (known : TileLine). known.kind) (cond here (Some tile.1) (tile_known tiles t))) false
    by true rest = places_of_grid (columns tile.1.kind) grid.1 b are.1
    by false rest = rest

pub places_are : (parts : Parts) (k : Configuration) → IsOf parts k → (t : TileAt) (b : BitAt) → is_there k t b ≡ is_bit_of parts t b
places_are parts k is t b = places_of_grids parts.tiles k.tiles t b is.grids

-- ---- other rows of a tile
grids_with : (tiles : List (TileAt × TileLine)) (grids : List (TileAt × List (List Bool))) (t : TileAt) (rows : List (List Bool)) (known : TileLine) → AreGrids tiles grids
    → tile_known tiles t ≡ Some known → IsGrid (columns known.kind) rows → AreGrids tiles (tiles_with t (λ _. rows) grids)
grids_with [] [] t rows known are at is = tt
grids_with [] (grid ∷ grids) t rows known are at is = absurd are
grids_with (tile ∷ tiles) [] t rows known are at is = absurd are
grids_with (tile ∷ tiles) (grid ∷ grids) t rows known are at is = by (same_tile t grid.0) (ap (same_tile t) are.0) at (λ found. grids_with tiles grids t rows known are.2 found is)
  where
    by : (here : Bool) → here ≡ same_tile t tile.0 → cond (same_tile t tile.0) (Some tile.1) (tile_known tiles t) ≡ Some known
        → (tile_known tiles t ≡ Some known → AreGrids tiles (tiles_with t (λ _. rows) grids))
        → AreGrids (tile ∷ tiles) (cond here ((grid.0, rows) ∷ grids) (grid ∷ tiles_with t (λ _. rows) grids))
    by true here at rest =
        let first : cond true (Some tile.1) (tile_known tiles t) ≡ Some known = ap (λ (x : Bool). cond x (Some tile.1) (tile_known tiles t)) here ∙ at in
        let found : tile.1 ≡ known = cc in
        (are.0, subst (λ (other : TileLine). IsGrid (columns other.kind) rows) (sym found) is, are.2)
    by false here at rest = (are.0, are.1, rest (ap (λ (x : Bool). cond x (Some tile.1) (tile_known tiles t)) here ∙ at))

pub with_rows_is_of : (parts : Parts) (k : Configuration) (t : TileAt) (rows : List (List Bool)) (known : TileLine) → IsOf parts k → tile_known parts.tiles t ≡ Some known
    → IsGrid (columns known.kind) rows → IsOf parts (with_rows t rows k)
with_rows_is_of parts k t rows known of at is = record { grids = grids_with parts.tiles k.tiles t rows known of.grids at is; kinds = of.kinds; contents = of.contents }
