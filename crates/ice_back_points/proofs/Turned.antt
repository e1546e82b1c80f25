-- Places of tiles and of pads, found by a test that is the same both ways.
use Rattle.std.proofs.Common.{◌≡◌, ℕ, suc, Bool, true, false, cond, Option, List, [], ◌∷◌, Some, None, refl, ap, ◌∙◌}
use Rattle.std.specs.Prelude.{if◌then◌else◌, option_map, position}
use Rattle.ice_base.specs.declared.number.TileAt.{TileAt}
use Rattle.ice_base_values.proofs.ListPlaces.{position_cons}
use Rattle.ice_chip.specs.Database.{same_tile, same_pad}
use Rattle.ice_chip.proofs.Keys.{tile_turned, pad_turned}
use Rattle.ice_chip.specs.declared.rows.Pad.{Pad}
use Rattle.ice_decode.specs.Cells.{tile_place}
use Rattle.ice_back_laws.specs.declared.root.LevelRoot.{LevelRoot}
use Rattle.ice_back_laws.specs.declared.root.LevelRoot.TheVariants.{Fixed}
use Rattle.ice_back_laws.specs.Roots.{pad_number, bonded_root}

pub pad_found : (bonded : List Pad) (pad : Pad) → position (same_pad pad) bonded ≡ pad_number pad bonded
pad_found [] pad = refl
pad_found (p ∷ bonded) pad =
    position_cons (same_pad pad) p bonded
    ∙ ap (λ o. cond (same_pad pad p) (Some 0) (option_map suc o)) (pad_found bonded pad)
    ∙ ap (λ b. cond b (Some 0) (option_map suc (pad_number pad bonded))) (pad_turned pad p)

pub tile_found : (tiles : List TileAt) (t : TileAt) → position (same_tile t) tiles ≡ tile_place t tiles
tile_found [] t = refl
tile_found (u ∷ tiles) t =
    position_cons (same_tile t) u tiles
    ∙ ap (λ o. cond (same_tile t u) (Some 0) (option_map suc o)) (tile_found tiles t)
    ∙ ap (λ b. cond b (Some 0) (option_map suc (tile_place t tiles))) (tile_turned t u)

-- the root of a pad whose input buffer may be off
pub enabled_is : (sort : ℕ → LevelRoot) (o : Option ℕ) (b : Bool) → bonded_root sort (if b then o else None) ≡ (if b then bonded_root sort o else Fixed false)
enabled_is sort o true = refl
enabled_is sort o false = refl
