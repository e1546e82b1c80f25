-- What rows are whose lines have no fault: the places, pads and bits that they name are within a database.
use Rattle.std.specs.Prelude.{◌≡◌, ℕ, ◌<◌, ◌&&◌, ◌||◌, Bool, true, List, [], length, map, All, bytes_eq}
use Rattle.std.specs.List.{IsDistinct}
use Rattle.std.specs.Map.{keys_of}
use Rattle.indexmap.specs.IndexSet.{insert_all}
use Rattle.ice_base.specs.declared.number.TileAt.{TileAt}
use Rattle.ice_base.specs.declared.bit.BitAt.{BitAt}
use Rattle.ice_chip.specs.Database.{FunctionRow, SwitchGroup, PackageRows, same_pad, columns}
use Rattle.ice_chip.specs.Functions.{is_read, is_foreign, same_kind}
use Rattle.ice_chip.specs.declared.rows.Pad.{Pad}

-- a place among so many columns and rows
pub record IsPlace (width height : ℕ) (at : TileAt) : Type 0 where
  pub x : at.x < width
  pub y : at.y < height

-- a pad at such a place
pub record IsPad (width height : ℕ) (pad : Pad) : Type 0 where
  pub place : IsPlace width height pad.tile
  pub pio : pad.pio < 2

-- a place that feeds one of the eight globals
pub record FeedsGlobal (width height : ℕ) (row : TileAt × ℕ) : Type 0 where
  pub place : IsPlace width height row.0
  pub global : row.1 < 8

-- a pad that can feed one of the eight globals
pub record PadFeedsGlobal (width height : ℕ) (row : Pad × ℕ) : Type 0 where
  pub pad : IsPad width height row.0
  pub global : row.1 < 8

-- a pad, and where its input enable stands
pub record ArePads (width height : ℕ) (row : Pad × Pad) : Type 0 where
  pub pad : IsPad width height row.0
  pub enable : IsPad width height row.1

-- the place of column buffers, and the place that they serve
pub record ArePlaces (width height : ℕ) (row : TileAt × TileAt) : Type 0 where
  pub holder : IsPlace width height row.0
  pub served : IsPlace width height row.1

-- a bit of a tile with 16 rows and so many columns
pub record IsBit (columns : ℕ) (b : BitAt) : Type 0 where
  pub row : b.row < 16
  pub column : b.col < columns

-- a function that is read or kept, with bits of its kind's tiles
pub record IsKept (f : FunctionRow) : Type 0 where
  pub known : (is_read f.kind f.name || is_foreign f.kind f.name) ≡ true
  pub bits : All (IsBit (columns f.kind)) f.bits

-- the later function is read, and it is the earlier one again
abbrev pub is_again : FunctionRow → FunctionRow → Bool
is_again earlier later = is_read later.kind later.name && (same_kind earlier.kind later.kind && bytes_eq earlier.name later.name)

-- a group at a place, with one or more bits of some tile's columns, of which each row has one value each
pub record IsGroup (width height : ℕ) (g : SwitchGroup) : Type 0 where
  pub place : IsPlace width height g.tile
  pub some : 0 < length g.bits
  pub bits : All (IsBit 54) g.bits
  pub values : All (λ r. length r.values ≡ length g.bits) g.rows

-- the different pads of pins, in their order
abbrev pub different_pads : List (List ℕ × Pad) → List Pad
different_pads pins = insert_all same_pad [] (map (λ pin. pin.1) pins)

-- a package: each pin stands once
pub record IsPackage (width height : ℕ) (p : PackageRows) : Type 0 where
  pub once : IsDistinct bytes_eq (keys_of p.pins)
  pub pins : All (λ pin. IsPad width height pin.1) p.pins
  pub pads : p.pads ≡ different_pads p.pins
