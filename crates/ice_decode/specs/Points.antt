-- The points of a chip, in the order of their numbers.
use Rattle.std.specs.Prelude.{◌≡◌, ℕ, ◌<◌, ◌≤◌, Option, None, Some, List, ◌++◌, map, length, slice_get}
use Rattle.std.specs.List.{flat_map, range_with_len}
use Rattle.ice_base.specs.declared.number.TileAt.{TileAt}
use Rattle.ice_chip.specs.Database.{Parts}
use Rattle.ice_base_values.specs.Order.{Has, StandOnce}
use Rattle.ice_base_values.specs.Graph.{depends_of}
use Rattle.ice_decode.specs.declared.point.Point.{Point}
use Rattle.ice_decode.specs.declared.point.Point.TheVariants.{Wire, Carry}
use Rattle.ice_decode.specs.Cells.{cells, cells_in}
use Rattle.ice_decode.specs.Reads.{wire_point}

abbrev pub carry_point : TileAt × ℕ → Point
carry_point c = Carry c.0 c.1

-- the points of a chip: its wires, and the carry of each logic cell
abbrev pub points : Parts → List Point
points parts = map wire_point (range_with_len 0 parts.wires) ++ map carry_point (cells parts)

-- a wire is one of the chip
abbrev pub HasWire : Parts → Point → Type 0
HasWire parts (Wire w) = w.0 < parts.wires
HasWire parts (Carry t i) = Unit {0}

-- so many wires, and eight carries for each of these tiles
abbrev pub points_by : ℕ → List TileAt → List Point
points_by wires tiles = map wire_point (range_with_len 0 wires) ++ map carry_point (flat_map cells_in tiles)

-- the points of a chip, each once
pub record AreAllPoints (parts : Parts) (list : List Point) : Type 0 where
  pub once : StandOnce list
  pub within : (p : Point) → Has list p → Has (points parts) p
  pub each : (p : Point) → Has (points parts) p → Has list p
  pub few : length list ≤ length (points parts)

-- a graph that has a row for each of these points, with the numbers of those that it depends on
pub record IsGraphOf {P : Type 0} (list : List P) (depends : P → List P) (rows : List (List ℕ)) : Type 0 where
  pub count : length rows ≡ length list
  pub rows_are : (n : ℕ) (p : P) → slice_get list n ≡ Some p → map (slice_get list) (depends_of rows n) ≡ map (λ q. Some q) (depends p)

-- a point, where there is one, is one of these
abbrev pub IsNumbered : List Point → Option Point → Type 0
IsNumbered list None = Unit {0}
IsNumbered list (Some p) = Has list p
