-- What is listed of a chip database: tiles with their kinds, rows of switches over all groups, and first pins of pads.
use Rattle.std.specs.Prelude.{ℕ, List, [], ◌∷◌, ◌++◌, map, find, option_map, unwrap_or}
use Rattle.ice_base.specs.declared.number.TileAt.{TileAt}
use Rattle.ice_chip.specs.Database.{SwitchGroup, SwitchRow, PackageRows, same_pad}
use Rattle.ice_chip.specs.declared.rows.Pad.{Pad}
use Rattle.ice_chip.specs.declared.rows.TileLine.{TileLine}
use Rattle.ice_chip.specs.declared.tile.Tile.{Tile}

-- ---- tiles
abbrev pub tile_of : TileAt × TileLine → Tile
tile_of row = record { at = row.0; kind = row.1.kind }

-- ---- switch rows, numbered over all groups
abbrev pub in_group : SwitchGroup → SwitchRow → SwitchGroup × SwitchRow
in_group g r = (g, r)

abbrev pub rows_of : List SwitchGroup → List (SwitchGroup × SwitchRow)
rows_of [] = []
rows_of (g ∷ gs) = map (in_group g) g.rows ++ rows_of gs

-- ---- pins
-- the first pin of the package that leads to the pad; empty where none does
abbrev pub first_pin : PackageRows → Pad → List ℕ
first_pin bonded pad = unwrap_or (option_map (λ (pin : List ℕ × Pad). pin.0) (find (λ (pin : List ℕ × Pad). same_pad pad pin.1) bonded.pins)) []
