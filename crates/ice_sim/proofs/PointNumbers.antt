-- Numbers of the points of a chip.
use Rattle.std.proofs.Common.{◌≡◌, ℕ, zero, suc, ◌+◌, ◌*◌, ◌<◌, Bool, true, false, cond, List, [], ◌∷◌, length, Option, Some, None, refl, ap, ◌∙◌, subst, arith}
use Rattle.std.specs.Prelude.{option_map, unwrap_or}
use Rattle.std.specs.List.{flat_map}
use Rattle.std.proofs.lemmas.Option.{same_Some, slice_get_within}
use Rattle.ice_base.specs.declared.number.TileAt.{TileAt}
use Rattle.ice_base_values.specs.Order.{At, Has}
use Rattle.ice_base_values.proofs.Places.{At_same}
use Rattle.ice_chip.specs.Database.{Parts, same_tile}
use Rattle.ice_decode.specs.declared.point.Point.{Point}
use Rattle.ice_decode.specs.declared.point.Point.TheVariants.{Wire, Carry}
use Rattle.ice_decode.specs.Cells.{cells_in, logic_tiles, tile_place}
use Rattle.ice_decode.specs.Reads.{count_points}
use Rattle.ice_decode.specs.Points.{points}
use Rattle.ice_decode.proofs.KeptLevels.{tile_at}
use Rattle.ice_decode.proofs.PointPlaces.{cells_long, StandsAs, point_cases}
use Rattle.ice_base.proofs.Keys.{tile_self}
use Rattle.ice_sim.specs.ChipSlots.{cell_place, number}

-- ---- tiles
-- and there is one where the tile stands
pub tile_there : (t : TileAt) (tiles : List TileAt) (k : ℕ) → At tiles k t → (m : ℕ) × (tile_place t tiles ≡ Some m)
tile_there t [] k at = cc at
tile_there t (u ∷ tiles) zero at =
    let same : u ≡ t = same_Some u t at in
    let hit : same_tile u t ≡ true = ap (λ (x : TileAt). same_tile x t) same ∙ tile_self t in
    (0, rw hit refl)
tile_there t (u ∷ tiles) (suc k) at = of (same_tile u t) (tile_there t tiles k at)
  where
    of : (b : Bool) → (m : ℕ) × (tile_place t tiles ≡ Some m) → (m : ℕ) × (cond b (Some 0) (option_map suc (tile_place t tiles)) ≡ Some m)
    of true rec = (0, refl)
    of false rec = (suc rec.0, ap (option_map suc) rec.1)

-- ---- points
-- a wire of the chip, or the carry of one of its cells
pub record IsCellIn (parts : Parts) (t : TileAt) (i : ℕ) : Type 0 where
  pub place : ℕ
  pub found : tile_place t (logic_tiles parts) ≡ Some place
  pub within : place < length (logic_tiles parts)
  pub below : i < 8

abbrev pub IsIn : Parts → Point → Type 0
IsIn parts (Wire w) = w.0 < parts.wires
IsIn parts (Carry t i) = IsCellIn parts t i

cell_in : (parts : Parts) (t : TileAt) (i k : ℕ) → At (logic_tiles parts) k t → i < 8 → IsCellIn parts t i
cell_in parts t i k at lt =
    let found = tile_there t (logic_tiles parts) k at in
    record {
      place = found.0;
      found = found.1;
      within = slice_get_within (logic_tiles parts) found.0 t (tile_at t (logic_tiles parts) found.0 found.1);
      below = lt;
    }

pub is_in : (parts : Parts) (p : Point) → Has (points parts) p → IsIn parts p
is_in parts p has = by p (point_cases parts.wires (logic_tiles parts) has.0 p has.1)
  where
    by : (q : Point) → StandsAs parts.wires (logic_tiles parts) has.0 q → IsIn parts q
    by (Wire w) x = x.1
    by (Carry t i) x = cell_in parts t i x.0 x.1 x.2

-- the place of a cell
pub cell_number : (parts : Parts) (t : TileAt) (i : ℕ) → (c : IsCellIn parts t i) → unwrap_or (cell_place parts t i) 0 ≡ 8 * c.place + i
cell_number parts t i c = ap (λ o. unwrap_or (option_map (λ k. 8 * k + i) o) 0) c.found

pub cell_within : (parts : Parts) (t : TileAt) (i c : ℕ) → i < 8 → cell_place parts t i ≡ Some c → c < length (flat_map cells_in (logic_tiles parts))
cell_within parts t i c lt e = by (tile_place t (logic_tiles parts)) refl e
  where
    by : (o : Option ℕ) → tile_place t (logic_tiles parts) ≡ o → option_map (λ k. 8 * k + i) o ≡ Some c → c < length (flat_map cells_in (logic_tiles parts))
    by None f g = cc g
    by (Some k) f g =
        let same : 8 * k + i ≡ c = same_Some (8 * k + i) c g in
        let inside : k < length (logic_tiles parts) = slice_get_within (logic_tiles parts) k t (tile_at t (logic_tiles parts) k f) in
        let long = cells_long (logic_tiles parts) in
        omega arith

-- the number of a point is below the number of points
pub number_within : (parts : Parts) (p : Point) → IsIn parts p → number parts p < count_points parts
number_within parts (Wire w) in_ = omega arith
number_within parts (Carry t i) c =
    let e = cell_number parts t i c in
    let lt = c.within in
    let below = c.below in
    let long = cells_long (logic_tiles parts) in
    omega arith

-- no two points have one number
pub number_once : (parts : Parts) (p q : Point) → IsIn parts p → IsIn parts q → number parts p ≡ number parts q → p ≡ q
number_once parts (Wire w) (Wire v) a b e = let n : w.0 ≡ v.0 = e in λ i. Wire (record { 0 = n i })
number_once parts (Wire w) (Carry t i) a b e = absurd (omega arith)
number_once parts (Carry t i) (Wire w) a b e = absurd (omega arith)
number_once parts (Carry t i) (Carry u j) a b e =
    let x = cell_number parts t i a in
    let y = cell_number parts u j b in
    let small = a.below in
    let low = b.below in
    let place : a.place ≡ b.place = omega arith in
    let cell : i ≡ j = omega arith in
    let here : At (logic_tiles parts) b.place t = subst (λ k. At (logic_tiles parts) k t) place (tile_at t (logic_tiles parts) a.place a.found) in
    let tile : t ≡ u = At_same (logic_tiles parts) b.place t u here (tile_at u (logic_tiles parts) b.place b.found) in
    ap (λ (s : TileAt). Carry s i) tile ∙ ap (λ n. Carry u n) cell
