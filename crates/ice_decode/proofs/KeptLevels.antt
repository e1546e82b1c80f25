-- What stores keep after a step, by what they kept before, and where they stand.
use Rattle.std.proofs.Common.{◌≡◌, ℕ, zero, suc, ◌+◌, ◌*◌, ◌<◌, Bool, true, false, cond, Option, None, Some, List, [], ◌∷◌, ◌++◌, refl, ap, sym, ◌∙◌, subst, get_or, length, map, filter, arith}
use Rattle.std.specs.Prelude.{option_map}
use Rattle.std.specs.List.{flat_map, zip}
use Rattle.std.specs.Option.{option_map_or}
use Rattle.std.proofs.lemmas.List.{length-map}
use Rattle.std.proofs.lemmas.Option.{same_Some, get_or_from_slice_get}
use Rattle.ice_base.specs.declared.number.TileAt.{TileAt}
use Rattle.ice_base.proofs.Keys.{tile_same}
use Rattle.ice_base_values.specs.Order.{At}
use Rattle.ice_base_values.proofs.ListPlaces.{zip_at}
use Rattle.ice_chip.specs.Database.{Parts, same_tile}
use Rattle.ice_chip.specs.declared.rows.TileLine.{TileLine}
use Rattle.ice_chip.specs.declared.rows.Pad.{Pad}
use Rattle.ice_bits.specs.Configuration.{Bits}
use Rattle.ice_net.specs.Meaning.{State}
use Rattle.ice_decode.specs.declared.point.Point.{Point}
use Rattle.ice_decode.specs.Cells.{cells, logic_tiles, tile_place}
use Rattle.ice_decode.specs.Pads.{pads_in, is_io_tile, io_tiles, pads, Store, CellStore, InputStore, OutputStore, cell_store, pad_stores, stores, kept_at, register_at}
use Rattle.ice_decode.specs.Meaning.{store_after, store_kept_after, clock_after, state_after}
use Rattle.ice_decode.proofs.Members.{At_left, At_right, At_map}
use Rattle.ice_decode.proofs.PointPlaces.{cell_at}

-- the place that is found is one of the tile
pub tile_at : (t : TileAt) (tiles : List TileAt) (k : ℕ) → tile_place t tiles ≡ Some k → At tiles k t
tile_at t [] k e = cc e
tile_at t (u ∷ tiles) k e = of (same_tile u t) refl e (λ m f. tile_at t tiles m f)
  where
    next : (o : Option ℕ) → option_map suc o ≡ Some k → ((m : ℕ) → o ≡ Some m → At tiles m t) → At (u ∷ tiles) k t
    next None f rec = cc f
    next (Some m) f rec = subst (λ n. At (u ∷ tiles) n t) (same_Some (suc m) k f) (rec m refl)

    of : (b : Bool) → same_tile u t ≡ b → cond b (Some 0) (option_map suc (tile_place t tiles)) ≡ Some k → ((m : ℕ) → tile_place t tiles ≡ Some m → At tiles m t) → At (u ∷ tiles) k t
    of true is f rec = subst (λ n. At (u ∷ tiles) n t) (same_Some 0 k f) (ap (λ x. Some x) (tile_same u t is))
    of false is f rec = next (tile_place t tiles) f rec

-- ---- what stores keep
module _ (parts : Parts) (bits : Bits) (bonded : List Pad) (levels : List Bool) (v : Point → Bool) (state : State) (n : ℕ) (s : Store) (at : At (stores parts) n s) where
  -- a store keeps what it makes of the levels, of what it kept and of its clock before
  pub kept_stepped : (kept : Bool) (clock : Option Bool) → At state.kept n kept → At state.clocks n clock
      → At (state_after parts bits bonded levels v state).kept n (store_after parts bits bonded levels v s kept clock)
  kept_stepped kept clock a b =
      At_map (store_kept_after parts bits bonded levels v) (zip (stores parts) (zip state.kept state.clocks)) n (s, (kept, clock))
      (zip_at (stores parts) (zip state.kept state.clocks) n s (kept, clock) at (zip_at state.kept state.clocks n kept clock a b))

  -- and the level of its clock, where it is used
  pub clock_stepped : At (state_after parts bits bonded levels v state).clocks n (clock_after parts bits v s)
  clock_stepped = At_map (clock_after parts bits v) (stores parts) n s at

-- ---- where stores stand
-- that of a cell
pub cell_stands : (parts : Parts) (t : TileAt) (i k : ℕ) → tile_place t (logic_tiles parts) ≡ Some k → i < 8 → At (stores parts) (8 * k + i) (CellStore t i)
cell_stands parts t i k found below =
    At_left (map cell_store (cells parts)) (flat_map pad_stores (pads parts)) (8 * k + i) (CellStore t i)
    (At_map cell_store (cells parts) (8 * k + i) (t, i) (cell_at (logic_tiles parts) k i t (tile_at t (logic_tiles parts) k found) below))

pub cell_kept : (parts : Parts) (kept : List Bool) (t : TileAt) (i k : ℕ) (x : Bool) → tile_place t (logic_tiles parts) ≡ Some k → At kept (8 * k + i) x → kept_at parts kept t i ≡ x
cell_kept parts kept t i k x found at =
    ap (λ (o : Option ℕ). option_map_or (λ m. get_or kept (8 * m + i) false) o false) found
    ∙ get_or_from_slice_get kept (8 * k + i) x false at

-- those of a tile's two pads
abbrev four : TileAt → List Store
four t =
    InputStore (record { tile = t; pio = 0 })
    ∷ OutputStore (record { tile = t; pio = 0 })
    ∷ InputStore (record { tile = t; pio = 1 })
    ∷ OutputStore (record { tile = t; pio = 1 })
    ∷ []

abbrev of_pads : List TileAt → List Store
of_pads tiles = flat_map pad_stores (flat_map pads_in tiles)

four_at : (tiles : List TileAt) (k j : ℕ) (t : TileAt) (s : Store) → At tiles k t → At (four t) j s → At (of_pads tiles) (4 * k + j) s
four_at [] k j t s at here = cc at
four_at (u ∷ tiles) zero j t s at here =
    let same : u ≡ t = same_Some u t at in
    let e : j ≡ 4 * zero + j = omega arith in
    subst (λ n. At (of_pads (u ∷ tiles)) n s) e (At_left (four u) (of_pads tiles) j s (subst (λ (v : TileAt). At (four v) j s) (sym same) here))
four_at (u ∷ tiles) (suc k) j t s at here = At_right (four u) (of_pads tiles) (4 * k + j) (4 * suc k + j) s (four_at tiles k j t s at here) (omega arith)

input_of : (t : TileAt) (p : ℕ) → p < 2 → At (four t) (2 * p) (InputStore (record { tile = t; pio = p }))
input_of t zero lt = refl
input_of t (suc zero) lt = refl
input_of t (suc (suc p)) lt = absurd (omega arith)

output_of : (t : TileAt) (p : ℕ) → p < 2 → At (four t) (2 * p + 1) (OutputStore (record { tile = t; pio = p }))
output_of t zero lt = refl
output_of t (suc zero) lt = refl
output_of t (suc (suc p)) lt = absurd (omega arith)

pads_by : (tiles : List (TileAt × TileLine)) → flat_map (λ (tile : TileAt × TileLine). pads_in tile.0) tiles ≡ flat_map pads_in (map (λ (tile : TileAt × TileLine). tile.0) tiles)
pads_by [] = refl
pads_by (t ∷ tiles) = ap (λ ps. pads_in t.0 ++ ps) (pads_by tiles)

-- the pads are those of the IO tiles
pub pads_of_tiles : (parts : Parts) → pads parts ≡ flat_map pads_in (io_tiles parts)
pads_of_tiles parts = pads_by (filter is_io_tile parts.tiles)

module _ (parts : Parts) (pad : Pad) (k : ℕ) (found : tile_place pad.tile (io_tiles parts) ≡ Some k) where
  store_stands : (j : ℕ) (s : Store) → At (four pad.tile) j s → At (stores parts) (length (cells parts) + (4 * k + j)) s
  store_stands j s here =
      At_right (map cell_store (cells parts)) (flat_map pad_stores (pads parts)) (4 * k + j) (length (cells parts) + (4 * k + j)) s
      (subst (λ (ps : List Pad). At (flat_map pad_stores ps) (4 * k + j) s) (sym (pads_of_tiles parts)) (four_at (io_tiles parts) k j pad.tile s (tile_at pad.tile (io_tiles parts) k found) here))
      (ap (λ n. n + (4 * k + j)) (sym (length-map (cells parts) cell_store)))

  -- the registers of a pad
  pub input_stands : pad.pio < 2 → At (stores parts) (length (cells parts) + (4 * k + 2 * pad.pio)) (InputStore pad)
  input_stands lt = store_stands (2 * pad.pio) (InputStore pad) (input_of pad.tile pad.pio lt)

  pub output_stands : pad.pio < 2 → At (stores parts) (length (cells parts) + (4 * k + 2 * pad.pio) + 1) (OutputStore pad)
  output_stands lt =
      let e : length (cells parts) + (4 * k + (2 * pad.pio + 1)) ≡ length (cells parts) + (4 * k + 2 * pad.pio) + 1 = omega arith in
      subst (λ n. At (stores parts) n (OutputStore pad)) e (store_stands (2 * pad.pio + 1) (OutputStore pad) (output_of pad.tile pad.pio lt))

  pub register_kept : (kept : List Bool) (which : ℕ) (x : Bool) → At kept (length (cells parts) + (4 * k + 2 * pad.pio) + which) x → register_at parts kept pad which ≡ x
  register_kept kept which x at =
      ap (λ (o : Option ℕ). option_map_or (λ n. get_or kept (n + which) false) (option_map (λ m. length (cells parts) + (4 * m + 2 * pad.pio)) o) false) found
      ∙ get_or_from_slice_get kept (length (cells parts) + (4 * k + 2 * pad.pio) + which) x false at
