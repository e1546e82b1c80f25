-- Rows of switches that a route may use, as edges between wires.
use Rattle.std.specs.Prelude.{ℕ, ◌+◌, List, [], ◌∷◌, ◌++◌, if◌then◌else◌}
use Rattle.ice_base.specs.declared.number.TileAt.{TileAt}
use Rattle.ice_graph.specs.declared.edge.Edge.{Edge}
use Rattle.ice_chip.specs.Database.{Parts, SwitchRow, SwitchGroup}
use Rattle.ice_bits_rows.specs.Usable.{is_usable}

abbrev pub edge : SwitchGroup → ℕ → SwitchRow → Edge
edge g n r = record { row = record { 0 = n }; from = record { 0 = r.source }; to = record { 0 = g.wire } }

-- the usable ones of these rows of a group, where the first has the number n
abbrev pub edges_of : Parts → SwitchGroup → ℕ → List SwitchRow → List Edge
edges_of parts g n [] = []
edges_of parts g n (r ∷ rows) = if is_usable parts g n r then edge g n r ∷ edges_of parts g (n + 1) rows else edges_of parts g (n + 1) rows

abbrev pub edges_from : Parts → List SwitchGroup → List Edge
edges_from parts [] = []
edges_from parts (g ∷ groups) = edges_of parts g g.first g.rows ++ edges_from parts groups

-- the usable rows of a chip, in the order of their numbers
abbrev pub usable_rows : Parts → List Edge
usable_rows parts = edges_from parts parts.groups

-- the tile of the group for each usable one of these rows
abbrev pub places_of : Parts → SwitchGroup → ℕ → List SwitchRow → List TileAt
places_of parts g n [] = []
places_of parts g n (r ∷ rows) = if is_usable parts g n r then g.tile ∷ places_of parts g (n + 1) rows else places_of parts g (n + 1) rows

abbrev pub places_from : Parts → List SwitchGroup → List TileAt
places_from parts [] = []
places_from parts (g ∷ groups) = places_of parts g g.first g.rows ++ places_from parts groups

-- the tiles of the groups of the usable rows of a chip, row by row
abbrev pub usable_places : Parts → List TileAt
usable_places parts = places_from parts parts.groups
