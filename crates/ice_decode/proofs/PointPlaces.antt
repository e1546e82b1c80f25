-- Where the points of a chip stand among the numbered points.
use Rattle.std.proofs.Common.{◌≡◌, ℕ, zero, suc, ◌+◌, ◌-◌, ◌*◌, ◌<◌, ◌≤◌, List, [], ◌∷◌, ◌++◌, Some, inl, inr, refl, ap, sym, ◌∙◌, subst, length, map, arith, length-append}
use Rattle.std.specs.List.{flat_map, range_with_len}
use Rattle.std.proofs.lemmas.List.{length-map}
use Rattle.std.proofs.lemmas.List.FromFn.{length-range_with_len}
use Rattle.std.proofs.lemmas.Option.{same_Some}
use Rattle.ice_base.specs.declared.number.TileAt.{TileAt}
use Rattle.ice_base_values.specs.Order.{At, Has, StandOnce}
use Rattle.ice_base_values.proofs.Places.{At_append_cases}
use Rattle.ice_decode.specs.declared.point.Point.{Point}
use Rattle.ice_decode.specs.declared.point.Point.TheVariants.{Wire, Carry}
use Rattle.ice_decode.specs.Cells.{cells_in}
use Rattle.ice_decode.specs.Reads.{wire_point}
use Rattle.ice_decode.specs.Points.{carry_point, points_by}
use Rattle.ice_decode.proofs.Members.{At_left, At_right, At_map, At_map_cases, At_range, At_range_cases}

-- ---- cells
pub eight_at : (t : TileAt) (rest : List (TileAt × ℕ)) (i : ℕ) → i < 8 → At (cells_in t ++ rest) i (t, i)
eight_at t rest zero lt = refl
eight_at t rest (suc zero) lt = refl
eight_at t rest (suc (suc zero)) lt = refl
eight_at t rest (suc (suc (suc zero))) lt = refl
eight_at t rest (suc (suc (suc (suc zero)))) lt = refl
eight_at t rest (suc (suc (suc (suc (suc zero))))) lt = refl
eight_at t rest (suc (suc (suc (suc (suc (suc zero)))))) lt = refl
eight_at t rest (suc (suc (suc (suc (suc (suc (suc zero))))))) lt = refl
eight_at t rest (suc (suc (suc (suc (suc (suc (suc (suc i)))))))) lt = absurd (omega arith)

-- the cell of a number of the tile at a place
pub cell_at : (tiles : List TileAt) (k i : ℕ) (t : TileAt) → At tiles k t → i < 8 → At (flat_map cells_in tiles) (8 * k + i) (t, i)
cell_at [] k i t at lt = cc at
cell_at (u ∷ tiles) zero i t at lt =
    let e : i ≡ 8 * 0 + i = omega arith in
    subst (λ n. At (flat_map cells_in (u ∷ tiles)) n (t, i)) e (subst (λ v. At (cells_in v ++ flat_map cells_in tiles) i (t, i)) (sym (same_Some u t at)) (eight_at t (flat_map cells_in tiles) i lt))
cell_at (u ∷ tiles) (suc k) i t at lt =
    let e : suc (suc (suc (suc (suc (suc (suc (suc (8 * k + i)))))))) ≡ 8 * suc k + i = omega arith in
    subst (λ n. At (flat_map cells_in (u ∷ tiles)) n (t, i)) e (cell_at tiles k i t at lt)

pub record IsCellOf (tiles : List TileAt) (n : ℕ) (c : TileAt × ℕ) : Type 0 where
  pub place : ℕ
  pub stands : At tiles place c.0
  pub below : c.1 < 8
  pub number : n ≡ 8 * place + c.1

first_cell : (u : TileAt) (tiles : List TileAt) (i : ℕ) (c : TileAt × ℕ) → i < 8 → (u, i) ≡ c → IsCellOf (u ∷ tiles) i c
first_cell u tiles i c lt e =
    let t : u ≡ c.0 = ap (λ (d : TileAt × ℕ). d.0) e in
    let j : i ≡ c.1 = ap (λ (d : TileAt × ℕ). d.1) e in
    record { place = 0; stands = ap (λ v. Some v) t; below = omega arith; number = omega arith }

-- what stands among the cells of tiles
pub cell_cases : (tiles : List TileAt) (n : ℕ) (c : TileAt × ℕ) → At (flat_map cells_in tiles) n c → IsCellOf tiles n c
cell_cases [] n c at = cc at
cell_cases (u ∷ tiles) zero c at = first_cell u tiles 0 c (omega arith) (same_Some (u, 0) c at)
cell_cases (u ∷ tiles) (suc zero) c at = first_cell u tiles 1 c (omega arith) (same_Some (u, 1) c at)
cell_cases (u ∷ tiles) (suc (suc zero)) c at = first_cell u tiles 2 c (omega arith) (same_Some (u, 2) c at)
cell_cases (u ∷ tiles) (suc (suc (suc zero))) c at = first_cell u tiles 3 c (omega arith) (same_Some (u, 3) c at)
cell_cases (u ∷ tiles) (suc (suc (suc (suc zero)))) c at = first_cell u tiles 4 c (omega arith) (same_Some (u, 4) c at)
cell_cases (u ∷ tiles) (suc (suc (suc (suc (suc zero))))) c at = first_cell u tiles 5 c (omega arith) (same_Some (u, 5) c at)
cell_cases (u ∷ tiles) (suc (suc (suc (suc (suc (suc zero)))))) c at = first_cell u tiles 6 c (omega arith) (same_Some (u, 6) c at)
cell_cases (u ∷ tiles) (suc (suc (suc (suc (suc (suc (suc zero))))))) c at = first_cell u tiles 7 c (omega arith) (same_Some (u, 7) c at)
cell_cases (u ∷ tiles) (suc (suc (suc (suc (suc (suc (suc (suc n)))))))) c at =
    let rest = cell_cases tiles n c at in
    record {
      place = suc rest.place;
      stands = rest.stands;
      below = rest.below;
      number = (let e = rest.number in omega arith);
    }

-- ---- points
wires_long : (wires : ℕ) → length (map wire_point (range_with_len 0 wires)) ≡ wires
wires_long wires = length-map (range_with_len 0 wires) wire_point ∙ length-range_with_len 0 wires

pub wire_at : (wires : ℕ) (tiles : List TileAt) (w : ℕ) → w < wires → At (points_by wires tiles) w (wire_point w)
wire_at wires tiles w lt =
    At_left (map wire_point (range_with_len 0 wires)) (map carry_point (flat_map cells_in tiles)) w (wire_point w)
    (let e : 0 + w ≡ w = omega arith in subst (λ k. At (map wire_point (range_with_len 0 wires)) w (wire_point k)) e (At_map wire_point (range_with_len 0 wires) w (0 + w) (At_range 0 wires w lt)))

pub carry_at : (wires : ℕ) (tiles : List TileAt) (k i : ℕ) (t : TileAt) → At tiles k t → i < 8 → At (points_by wires tiles) (wires + 8 * k + i) (Carry t i)
carry_at wires tiles k i t at lt =
    let long = wires_long wires in
    At_right (map wire_point (range_with_len 0 wires)) (map carry_point (flat_map cells_in tiles)) (8 * k + i) (wires + 8 * k + i) (Carry t i)
    (At_map carry_point (flat_map cells_in tiles) (8 * k + i) (t, i) (cell_at tiles k i t at lt)) (omega arith)

-- what stands at a place, by the kind of the point
abbrev pub StandsAs : ℕ → List TileAt → ℕ → Point → Type 0
StandsAs wires tiles n (Wire w) = (n ≡ w.0) × (w.0 < wires)
StandsAs wires tiles n (Carry t i) = (k : ℕ) × At tiles k t × (i < 8) × (n ≡ wires + 8 * k + i)

pub point_cases : (wires : ℕ) (tiles : List TileAt) (n : ℕ) (p : Point) → At (points_by wires tiles) n p → StandsAs wires tiles n p
point_cases wires tiles n p at =
    elim (At_append_cases (map wire_point (range_with_len 0 wires)) (map carry_point (flat_map cells_in tiles)) n p at) [
      | inl left ↦ (let found = At_map_cases wire_point (range_with_len 0 wires) n p left in
          let number = At_range_cases 0 wires n found.0 found.1 in
          let e : n ≡ found.0 = omega (arith, number.1) in
          subst (StandsAs wires tiles n) found.2 (e, omega (arith, number.0)))
      | inr right ↦ (let found = At_map_cases carry_point (flat_map cells_in tiles) (n - length (map wire_point (range_with_len 0 wires))) p right.1 in
          let cell = cell_cases tiles (n - length (map wire_point (range_with_len 0 wires))) found.0 found.1 in
          let long = wires_long wires in
          let e = cell.number in
          let le : length (map wire_point (range_with_len 0 wires)) ≤ n = right.0 in
          subst (StandsAs wires tiles n) found.2 (cell.place, cell.stands, cell.below, omega arith))
    ]

-- each point stands once where each tile does
pub points_once : (wires : ℕ) (tiles : List TileAt) → StandOnce tiles → StandOnce (points_by wires tiles)
points_once wires tiles once i j p a b = by p (point_cases wires tiles i p a) (point_cases wires tiles j p b)
  where
    by : (q : Point) → StandsAs wires tiles i q → StandsAs wires tiles j q → i ≡ j
    by (Wire w) x y = x.0 ∙ sym y.0
    by (Carry t c) x y =
        let k : x.0 ≡ y.0 = once x.0 y.0 t x.1 y.1 in
        let e : i ≡ wires + 8 * x.0 + c = x.3 in
        let f : j ≡ wires + 8 * y.0 + c = y.3 in
        e ∙ ap (λ m. wires + 8 * m + c) k ∙ sym f

-- ---- the same for more tiles
pub points_within : (wires : ℕ) (tiles others : List TileAt) → ((t : TileAt) → Has tiles t → Has others t) → (p : Point) → Has (points_by wires tiles) p → Has (points_by wires others) p
points_within wires tiles others within p has = by p (point_cases wires tiles has.0 p has.1)
  where
    by : (q : Point) → StandsAs wires tiles has.0 q → Has (points_by wires others) q
    by (Wire w) x = (w.0, wire_at wires others w.0 x.1)
    by (Carry t c) x =
        let there = within t (x.0, x.1) in
        (wires + 8 * there.0 + c, carry_at wires others there.0 c t there.1 x.2)

pub cells_long : (tiles : List TileAt) → length (flat_map cells_in tiles) ≡ 8 * length tiles
cells_long [] = refl
cells_long (t ∷ tiles) = let rest = cells_long tiles in omega arith

pub points_long : (wires : ℕ) (tiles : List TileAt) → length (points_by wires tiles) ≡ wires + 8 * length tiles
points_long wires tiles =
    length-append (map wire_point (range_with_len 0 wires)) (map carry_point (flat_map cells_in tiles))
    ∙ ap (λ n. n + length (map carry_point (flat_map cells_in tiles))) (wires_long wires)
    ∙ ap (λ n. wires + n) (length-map (flat_map cells_in tiles) carry_point ∙ cells_long tiles)
