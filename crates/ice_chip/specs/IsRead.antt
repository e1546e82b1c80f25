-- What every database that was read from a text meets, and every chip.
use Rattle.std.specs.Prelude.{◌≡◌, ℕ, ◌+◌, ◌<◌, ◌≤◌, List, [], ◌∷◌, length, All, None}
use Rattle.std.specs.List.{IsDistinct}
use Rattle.std.specs.Map.{keys_of}
use Rattle.ice_chip.specs.Database.{Parts, SwitchGroup, same_tile}
use Rattle.ice_chip.specs.Limits.{most_places, most_wires, most_rows}
use Rattle.ice_chip.specs.Listings.{rows_of}
use Rattle.ice_chip.specs.Whole.{whole_fault}
use Rattle.ice_chip.specs.Within.{IsPlace, FeedsGlobal, PadFeedsGlobal, ArePads, ArePlaces, IsKept, is_again, IsGroup, IsPackage}

-- the wires of a group and of its sources
pub record HasWiresBelow (wires : ℕ) (g : SwitchGroup) : Type 0 where
  pub target : g.wire < wires
  pub sources : All (λ r. r.source < wires) g.rows

-- each group's first row has the number of the rows before it
abbrev pub AreNumbered : ℕ → List SwitchGroup → Type 0
AreNumbered n [] = Unit {0}
AreNumbered n (g ∷ gs) = (g.first ≡ n) × AreNumbered (n + length g.rows) gs

-- no line has a fault, and the rows are numbered
pub record IsRead (parts : Parts) : Type 0 where
  -- the limits
  pub narrow : parts.width ≤ most_places
  pub low : parts.height ≤ most_places
  pub few_wires : parts.wires ≤ most_wires
  pub few_rows : length (rows_of parts.groups) ≤ most_rows
  -- a tile stands once
  pub tiles_once : IsDistinct same_tile (keys_of parts.tiles)
  pub tile_places : All (IsPlace parts.width parts.height) (keys_of parts.tiles)
  -- a function that is read stands once in a kind of tiles
  pub functions_kept : All IsKept parts.functions
  pub functions_once : IsDistinct is_again parts.functions
  pub named_wires : All (λ n. n.wire < parts.wires) parts.names
  pub named_places : All (λ n. IsPlace parts.width parts.height n.tile) parts.names
  pub group_wires : All (HasWiresBelow parts.wires) parts.groups
  pub group_forms : All (IsGroup parts.width parts.height) parts.groups
  pub numbered : AreNumbered 0 parts.groups
  pub package_forms : All (IsPackage parts.width parts.height) parts.packages
  pub feeds : All (FeedsGlobal parts.width parts.height) parts.gbufin
  pub pad_feeds : All (PadFeedsGlobal parts.width parts.height) parts.gbufpin
  pub padins : All (λ row. row.0 < 8) parts.padin
  pub enables : All (ArePads parts.width parts.height) parts.ieren
  pub buffers : All (ArePlaces parts.width parts.height) parts.colbuf

-- a chip has no fault of the whole
pub record IsChip (parts : Parts) : Type 0 where
  pub read : IsRead parts
  pub faultless : whole_fault parts ≡ None
