-- The kinds of the tiles of bits.
use Rattle.std.proofs.Common.{◌≡◌, ℕ, suc, Bool, true, false, cond, Option, None, Some, option_map, List, [], ◌∷◌, map, refl, ap, ◌∙◌}
use Rattle.std.specs.Prelude.{slice_get}
use Rattle.std.specs.Option.{option_and_then}
use Rattle.ice_base.specs.declared.number.TileAt.{TileAt}
use Rattle.ice_chip.specs.Database.{Parts, same_tile, tile_known}
use Rattle.ice_chip.specs.Lookups.{kind_at}
use Rattle.ice_chip.specs.declared.rows.TileLine.{TileLine}
use Rattle.ice_chip.specs.declared.rows.TileKind.{TileKind}
use Rattle.ice_bits.specs.Configuration.{Configuration}
use Rattle.ice_bits.specs.Grids.{AreGrids, IsOf, kind_in, kind_of_tile}
use Rattle.ice_bits.specs.TilePlaces.{place_in}

kinds_of_grids : (tiles : List (TileAt × TileLine)) (grids : List (TileAt × List (List Bool))) (t : TileAt) → AreGrids tiles grids
    → option_and_then (λ i. slice_get (map kind_of_tile tiles) i) (place_in t grids) ≡ option_map (λ (known : TileLine). known.kind) (tile_known tiles t)
kinds_of_grids [] [] t are = refl
kinds_of_grids [] (grid ∷ grids) t are = absurd are
kinds_of_grids (tile ∷ tiles) [] t are = absurd are
kinds_of_grids (tile ∷ tiles) (grid ∷ grids) t are =
    ap (λ (u : TileAt). option_and_then (λ i. slice_get (map kind_of_tile (tile ∷ tiles)) i) (cond (same_tile t u) (Some 0) (option_map (λ i. suc i) (place_in t grids)))) are.0
    ∙ by (same_tile t tile.0) (place_in t grids) (kinds_of_grids tiles grids t are.2)
  where
    by : (here : Bool) (o : Option ℕ) → option_and_then (λ i. slice_get (map kind_of_tile tiles) i) o ≡ option_map (λ (known : TileLine). known.kind) (tile_known tiles t)
        → option_and_then (λ i. slice_get (map kind_of_tile (tile ∷ tiles)) i) (cond here (Some 0) (option_map (λ i. suc i) o))
        ≡ option_map (λ (known : TileLine). known.kind) (cond here (Some tile.1) (tile_known tiles t))
    by true o rest = refl
    by false None rest = rest
    by false (Some i) rest = rest

pub kinds_are : (parts : Parts) (k : Configuration) → IsOf parts k → (t : TileAt) → kind_in k t ≡ kind_at parts t
kinds_are parts k is t =
    ap (λ (ks : List TileKind). option_and_then (λ i. slice_get ks i) (place_in t k.tiles)) is.kinds ∙ kinds_of_grids parts.tiles k.tiles t is.grids
