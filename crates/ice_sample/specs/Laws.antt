-- Worked numbers of a chip, and names at the places that groups go by.
use Rattle.std.specs.Prelude.{◌≡◌, ℕ, ◌+◌, ◌*◌, ◌/◌, ◌%◌, Option, Some, List, [], ◌∷◌, ◌++◌, map, length, slice_get, codes, decimal}
use Rattle.std.specs.List.{range_with_len}
use Rattle.ice_sample.specs.declared.grid.TileKind.TheVariants.{Io, Logic}
use Rattle.ice_sample.specs.Kinds.{wires_of}
use Rattle.ice_sample.specs.Tiles.{tiles_of, wire_count}
use Rattle.ice_sample.specs.Sections.{io_places, logic_places, pads_at}
use Rattle.ice_sample.specs.Wires.{io_names, cell_names, cell_name, control_names, track_names}
use Rattle.ice_sample.specs.Groups.{track_place}

-- what a chip of 14 by 18 has
pub record HasWorkedNumbers : Type 0 where
  pub logic_tiles : length (logic_places (tiles_of 14 18)) ≡ 192
  pub io_tiles : length (io_places (tiles_of 14 18)) ≡ 56
  pub pads : length (pads_at (io_places (tiles_of 14 18))) ≡ 112
  pub wires : wire_count 14 18 ≡ 26256

-- the names that stand at places in a list
abbrev pub names_at : List (List ℕ) → List ℕ → List (Option (List ℕ))
names_at names places = map (λ n. slice_get names n) places

-- Where the names of a tile's wires stand, counted from its first wire: those of a logic tile are those of its cells, the
-- controls and the tracks, and those of an IO tile are those of its pads and `fabout`, and the tracks.
pub record AreAtPlaces : Type 0 where
  pub inputs : names_at cell_names (map (λ p. 6 * (p / 4) + p % 4) (range_with_len 0 32)) ≡ map (λ p. Some (cell_name (p / 4) (codes "/in_" ++ decimal (p % 4)))) (range_with_len 0 32)
  pub outputs : names_at cell_names (map (λ i. 6 * i + 4) (range_with_len 0 8)) ≡ map (λ i. Some (cell_name i (codes "/out"))) (range_with_len 0 8)
  pub carries : names_at cell_names (map (λ i. 6 * i + 5) (range_with_len 0 8)) ≡ map (λ i. Some (cell_name i (codes "/cout"))) (range_with_len 0 8)
  pub controls : names_at (cell_names ++ control_names) (48 ∷ 49 ∷ 50 ∷ 51 ∷ [])
      ≡ Some (codes "lutff_global/clk") ∷ Some (codes "lutff_global/cen") ∷ Some (codes "lutff_global/s_r") ∷ Some (codes "carry_in_mux") ∷ []
  pub pads : names_at io_names (0 ∷ 1 ∷ 2 ∷ 3 ∷ 4 ∷ 5 ∷ 6 ∷ [])
      ≡ Some (codes "io_0/D_IN_0") ∷ Some (codes "io_0/D_OUT_0") ∷ Some (codes "io_0/OUT_ENB")
      ∷ Some (codes "io_1/D_IN_0") ∷ Some (codes "io_1/D_OUT_0") ∷ Some (codes "io_1/OUT_ENB") ∷ Some (codes "fabout") ∷ []
  pub logic_tracks : length (cell_names ++ control_names) ≡ track_place Logic
  pub io_tracks : length io_names ≡ track_place Io
  pub logic_wires : length (cell_names ++ control_names ++ track_names) ≡ wires_of (Some Logic)
  pub io_wires : length (io_names ++ track_names) ≡ wires_of (Some Io)
